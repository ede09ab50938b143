use Rattle.std.proofs.Common.{◌≡◌, ℕ, ◌+◌, ◌-◌, ◌^◌, ◌<◌, drop, length}
use Rattle.std.specs.Str.Parse.{digits_value_after}
use Rattle.gm_geom.proofs.number.extended.Given as goal

abbrev pub invariant-digits : goal.invariant-digits
invariant-digits l = record {
  value : digits_value_after 10 l.number (drop l.digit-index l.digits)
      ≡ digits_value_after 10 l.initial.number l.digits;
  room : l.number < 10 ^ (38 - (length l.digits - l.digit-index));
  bound : (k : ℕ) → l.initial.number < 10 ^ k → l.number < 10 ^ (k + l.digit-index);
}
