use Rattle.std.proofs.Common.{◌≡◌}
use Rattle.gm_program.specs.Collecting.{collected}
use Rattle.gm_program.proofs.execute.found.Found.take.Given as goal

abbrev pub invariant-features : goal.invariant-features
invariant-features l = l.self.values.entries ≡ collected l.fn.self.values.entries l.yielded
