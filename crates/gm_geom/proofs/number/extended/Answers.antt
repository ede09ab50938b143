use Rattle.std.proofs.Common.{◌≡◌, ◌-◌, ◌<◌, get_or, length, ◌∙◌, arith, true}
use Rattle.std.specs.Char.{is_ascii_digit}
use Rattle.gm_geom.proofs.Numbers.{digit_in, digit_low, digit_high, step_value, more_room}
use Rattle.gm_geom.proofs.Numbers.{more_bound, fits_wide}
use Rattle.gm_geom.proofs.number.extended.Goals as goal

pub overflow_mul-number : goal.overflow_mul-number
overflow_mul-number c =
    omega (
      arith,
      fits_wide c.digits.number (38 - (length c.args.digits.now - c.digits.digit-index))
          (omega arith) c.digits.invariant.room,
    )

pub overflow_add-number : goal.overflow_add-number
overflow_add-number c =
    let digit : is_ascii_digit (get_or c.args.digits.now c.digits.digit-index 0) ≡ true =
    digit_in c.args.digits.now c.digits.digit-index 0 c.requires.digits c.digits-test.true in
    omega (
      arith,
      digit_high (get_or c.args.digits.now c.digits.digit-index 0) digit,
      fits_wide c.digits.number (38 - (length c.args.digits.now - c.digits.digit-index))
          (omega arith) c.digits.invariant.room,
    )

pub digits-preserved : goal.digits-preserved
digits-preserved c =
    let digit : is_ascii_digit (get_or c.args.digits.now c.digits.digit-index 0) ≡ true =
    digit_in c.args.digits.now c.digits.digit-index 0 c.requires.digits c.digits-test.true in
    let high : c.from.result < 10 =
    omega (
      arith,
      c.from.ensures,
      digit_low (get_or c.args.digits.now c.digits.digit-index 0) digit,
      digit_high (get_or c.args.digits.now c.digits.digit-index 0) digit,
    ) in record {
      value = step_value c.digits.number c.from.result c.args.digits.now c.digits.digit-index
          c.digits-test.true c.from.ensures digit ∙ c.digits.invariant.value;
      room = more_room c.digits.number c.from.result (length c.args.digits.now) c.digits.digit-index
          c.requires.few c.digits-test.true high c.digits.invariant.room;
      bound = λ k less. more_bound c.digits.number c.from.result k c.digits.digit-index high
          (c.digits.invariant.bound k less);
    }
