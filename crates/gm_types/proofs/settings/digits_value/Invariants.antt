use Rattle.std.proofs.Common.{◌≡◌, take}
use Rattle.std.specs.Prelude.{min, fold}
use Rattle.gm_base.specs.Ascii.{next_digit}
use Rattle.gm_types.proofs.settings.digits_value.Given as goal

abbrev pub invariant-loop-byte : goal.invariant-loop-byte
invariant-loop-byte l = l.value ≡ min (fold next_digit 0 (take l.byte-index l.text)) 1000
