use Rattle.std.proofs.Common.{◌≡◌, ◌≤◌, ◌++◌, length, drop}
use Rattle.gm_runs.specs.List.{inserted, pending}
use Rattle.gm_runs.proofs.list.joined.Given as goal

abbrev pub invariant-loop-run : goal.invariant-loop-run
invariant-loop-run l =
    (l.run-index ≤ length l.runs)
    × (l.all.items ++ pending l.kept (drop l.run-index l.runs) ≡ inserted l.low l.high l.runs)
