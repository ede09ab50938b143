use Rattle.std.proofs.Common.{◌≡◌, map}
use Rattle.gm_program.specs.Step.{gone}
use Rattle.gm_program.proofs.execute.remove.removals.Given as goal

abbrev pub invariant-features : goal.invariant-features
invariant-features l = l.exchanges.items ≡ map gone l.yielded
