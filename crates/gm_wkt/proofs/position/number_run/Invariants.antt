use Rattle.std.proofs.Common.{◌≡◌, ◌+◌, drop}
use Rattle.gm_wkt.specs.Reader.{number_run}
use Rattle.gm_wkt.proofs.position.number_run.Given as goal

abbrev pub invariant-bytes : goal.invariant-bytes
invariant-bytes l = number_run l.bytes ≡ l.count + number_run (drop l.count l.bytes)
