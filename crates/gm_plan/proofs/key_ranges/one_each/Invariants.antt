use Rattle.std.proofs.Common.{◌≡◌, map}
use Rattle.gm_bounds.specs.declared.ranges.Range.TheVariants.{OneId}
use Rattle.gm_plan.proofs.key_ranges.one_each.Given as goal

abbrev pub invariant-ids : goal.invariant-ids
invariant-ids l = l.list.items ≡ map (λ id. OneId id) l.yielded
