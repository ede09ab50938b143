use Rattle.std.proofs.Common.{◌≡◌, ℤ, Option, Some, None, sym, ap, ◌∙◌}
use Rattle.gm_feature.specs.declared.value.Value.TheVariants as value
use Rattle.gm_feature.proofs.Fields.{some_is}
use Rattle.gm_feature.proofs.Leaps.{instant_number}
use Rattle.gm_feature.proofs.Seen.{instant_read}
use Rattle.gm_feature.proofs.stored.stored_date.Goals as goal

pub returns-in-Some : goal.returns-in-Some
returns-in-Some c = λ x e.
    let number = instant_number c.args.bytes.now x e in
    let there = instant_read c.long_at.result x.0 (c.long_at.ensures x number.0) number.1 in
    ap (λ (z : ℤ). value.Date z)
    (some_is x.0 c.in-Some.at (sym there ∙ sym c.in-Some.ensures.value))

pub returns-in-None : goal.returns-in-None
returns-in-None c = λ x e.
    let number = instant_number c.args.bytes.now x e in
    let nothing : Option ℤ = None in
    let there : nothing ≡ Some x.0 =
    c.in-None.ensures.value
    ∙ instant_read c.long_at.result x.0 (c.long_at.ensures x number.0) number.1 in
    absurd cc
