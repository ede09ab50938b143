use Rattle.std.proofs.Common.{◌≡◌, ◌^◌, ◌<◌, true, fold, take}
use Rattle.std.specs.Char.{is_ascii_digit}
use Rattle.std.specs.List.{list_all}
use Rattle.gm_base.specs.Ascii.{next_digit}
use Rattle.gm_calendar.proofs.reader.read_number.Given as goal

abbrev pub invariant-loop-digit : goal.invariant-loop-digit
invariant-loop-digit l = record {
  value : l.number ≡ fold next_digit 0 (take l.digit-index l.digits);
  digits : list_all is_ascii_digit (take l.digit-index l.digits) ≡ true;
  bound : l.number < 10 ^ l.digit-index;
}
