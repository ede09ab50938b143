use Rattle.std.proofs.Common.{sym, ◌∙◌, subst, List, ℕ, take, ap}
use Rattle.gm_geom.specs.Number.{AreDigits}
use Rattle.gm_geom.proofs.Numbers.{front_digits}
use Rattle.gm_geom.proofs.number.split_digits.Goals as goal

pub returns-clause-digits : goal.returns-clause-digits
returns-clause-digits c =
    let P : List ℕ → Type 0 = λ ds. AreDigits ds in
    subst P (sym (c.split_at.ensures.front
    ∙ ap (λ n. take n c.args.bytes.now) c.digit_count.ensures.value))
    (front_digits c.args.bytes.now)
