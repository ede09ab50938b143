use Rattle.std.proofs.Common.{◌≡◌, map}
use Rattle.gm_program.specs.Step.{given}
use Rattle.gm_program.proofs.execute.modify.changes.Given as goal

abbrev pub invariant-features : goal.invariant-features
invariant-features l = l.exchanges.items ≡ map (given l.attribute l.value) l.yielded
