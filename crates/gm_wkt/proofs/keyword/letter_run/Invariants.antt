use Rattle.std.proofs.Common.{◌≡◌, ◌+◌, drop}
use Rattle.gm_wkt.specs.Keyword.{letter_run}
use Rattle.gm_wkt.proofs.keyword.letter_run.Given as goal

abbrev pub invariant-bytes : goal.invariant-bytes
invariant-bytes l = letter_run l.text ≡ l.count + letter_run (drop l.count l.text)
