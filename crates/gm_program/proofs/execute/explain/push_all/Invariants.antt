use Rattle.std.proofs.Common.{◌≡◌, ◌++◌}
use Rattle.gm_program.proofs.execute.explain.push_all.Given as goal

abbrev pub invariant-more : goal.invariant-more
invariant-more l = l.lines.items ≡ l.fn.lines.items ++ l.yielded
