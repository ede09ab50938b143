use Rattle.std.proofs.Common.{◌≡◌}
use Rattle.gm_plan.specs.Merging.{merged}
use Rattle.gm_plan.proofs.merging.merged.Given as goal

abbrev pub invariant-list : goal.invariant-list
invariant-list l = l.all.items ≡ merged l.yielded
