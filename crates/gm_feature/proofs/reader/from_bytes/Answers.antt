use Rattle.std.proofs.Common.{◌≡◌, Option, Some, None, sym, ap, ◌∙◌, arith}
use Rattle.gm_feature.specs.declared.feature.Feature.{Feature}
use Rattle.gm_feature.specs.Reader.{feature_from}
use Rattle.gm_feature.proofs.Wholes.{feature_takes, feature_again}
use Rattle.gm_feature.proofs.reader.from_bytes.Goals as goal

pub returns-in-Ok-clause-found : goal.returns-in-Ok-clause-found
returns-in-Ok-clause-found c =
    feature_takes c.args.of.now c.args.bytes.now c.in-Ok.feature
    (λ i. omega (arith, c.type_inv.bytes i)) c.in-Ok.ensures

pub returns-in-Ok-clause-only : goal.returns-in-Ok-clause-only
returns-in-Ok-clause-only c =
    λ f fit e. sym c.in-Ok.ensures ∙ ap (feature_from c.args.of.now) e
    ∙ feature_again c.args.of.now f fit

pub returns-in-Err-Refused-clause-only : goal.returns-in-Err-Refused-clause-only
returns-in-Err-Refused-clause-only c = λ f fit e.
    let nothing : Option Feature = None in
    let refused : feature_from c.args.of.now c.args.bytes.now ≡ nothing =
    rw c.in-Err-Refused.field-0-is at c.in-Err-Refused.ensures in
    sym refused ∙ ap (feature_from c.args.of.now) e ∙ feature_again c.args.of.now f fit

pub returns-in-Err-Refused-clause-none : goal.returns-in-Err-Refused-clause-none
returns-in-Err-Refused-clause-none c = λ f fit e.
    let nothing : Option Feature = None in
    let refused : feature_from c.args.of.now c.args.bytes.now ≡ nothing =
    rw c.in-Err-Refused.field-0-is at c.in-Err-Refused.ensures in
    let both : nothing ≡ Some f =
    sym refused ∙ ap (feature_from c.args.of.now) e ∙ feature_again c.args.of.now f fit in
    absurd cc
