use Rattle.std.proofs.Common.{◌≡◌, ◌<◌, drop, true, false}
use Rattle.gm_ecql.specs.Scanner.{text_end}
use Rattle.gm_ecql.proofs.quoted.text_end.Given as goal

abbrev pub invariant-bytes : goal.invariant-bytes
invariant-bytes l = record {
  same : text_end 0 false l.bytes ≡ text_end l.index l.pending (drop l.index l.bytes);
  behind : l.pending ≡ true → 0 < l.index;
}
