use Rattle.std.proofs.Common.{◌-◌, ap, sym, ◌∙◌, length, arith}
use Rattle.std.specs.Str.Parse.{digits_value_after}
use Rattle.gm_geom.specs.Number.{fraction_at, behind_fraction}
use Rattle.gm_geom.proofs.Numbers.{room_behind, fits_behind, read_number, pow_pos}
use Rattle.gm_geom.proofs.number.unsigned_number.Goals as goal

pub extended-requires-clause-room : goal.extended-requires-clause-room
extended-requires-clause-room c = pow_pos (38 - length c.split_digits.result.0.now)

pub extended-requires-in-Some-clause-room : goal.extended-requires-in-Some-clause-room
extended-requires-in-Some-clause-room c =
    room_behind c.extended.result (length c.split_digits.result.0.now)
    (length c.split_fraction.result.0.now) (omega arith)
    (λ k some. c.extended.ensures.bound k some)

pub returns-in-Some-clause-value : goal.returns-in-Some-clause-value
returns-in-Some-clause-value c =
    read_number c.args.negative c.split_digits.result.0.now c.split_fraction.result.0.now
    c.split_fraction.result.1.now c.args.bytes.now c.in-Some.exponent c.extended-in-Some.result
    (omega arith)
    c.split_digits.ensures.front
    (c.split_fraction.ensures.front ∙ ap fraction_at c.split_digits.ensures.back)
    (c.split_fraction.ensures.back ∙ ap behind_fraction c.split_digits.ensures.back)
    (sym c.exponent_of.ensures.value ∙ c.in-Some.is)
    (c.extended-in-Some.ensures.value
    ∙ ap (λ n. digits_value_after 10 n c.split_fraction.result.0.now) c.extended.ensures.value)

pub returns-in-Some-clause-fits : goal.returns-in-Some-clause-fits
returns-in-Some-clause-fits c = record {
  value = fits_behind c.extended.result c.extended-in-Some.result
      (length c.split_digits.result.0.now) (length c.split_fraction.result.0.now) (omega arith)
      (λ k some. c.extended.ensures.bound k some)
      (λ k less. c.extended-in-Some.ensures.bound k less);
  places = omega arith;
  exponent = c.in-Some.ensures.fits;
}
