use Rattle.std.proofs.Common.{◌≡◌, true, take}
use Rattle.std.specs.List.{list_all}
use Rattle.gm_bounds.specs.OneValue.{is_of_one_value}
use Rattle.gm_bounds.proofs.one_value.are_of_one_value.Given as goal

abbrev pub invariant-members : goal.invariant-members
invariant-members l = list_all (is_of_one_value l.kind) (take l.range-index l.ranges) ≡ true
