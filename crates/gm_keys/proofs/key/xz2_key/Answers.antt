use Rattle.std.proofs.Common.{ap, ◌∙◌, ◌++◌, ℕ}
use Rattle.gm_types.specs.declared.index.IndexKind.TheVariants.{Xz2}
use Rattle.gm_keys.specs.Cell.{xz2_code}
use Rattle.gm_keys.specs.Key.{prefix_of, shard_of, code_front}
use Rattle.gm_keys.proofs.KeyParts.{xz2_some, xz2_none}
use Rattle.gm_keys.proofs.key.xz2_key.Goals as goal

pub returns : goal.returns
returns c =
    let t = c.args.of.now in
    let f = c.args.feature.now in
    xz2_some t f c.in-Some.extent c.in_ok-code_key.field-0 c.in-Some.ensures.value
    (c.in_ok-code_key.ensures
    ∙ ap (λ (code : ℕ). code_front (prefix_of t Xz2) (shard_of t f.id) code ++ f.id)
    (c.xz2_code-code.ensures
    ∙ ap (λ (bits : ℕ). xz2_code bits c.in-Some.extent) c.precision.ensures.value))

pub returns-in_default : goal.returns-in_default
returns-in_default c = xz2_none c.args.of.now c.args.feature.now c.in_default.ensures.value
