use Rattle.std.proofs.Common.{◌≡◌, map, drop}
use Rattle.gm_filter.specs.Tree.{tree, trees_of}
use Rattle.gm_bounds.specs.Bound.{all_of, any_of}
use Rattle.gm_bounds.specs.Lists.{anywhere, nowhere}
use Rattle.gm_bounds.specs.Values.{range_rules}
use Rattle.gm_bounds.proofs.values.+valuing.Given as goal

abbrev pub invariant-ranges_in_all-members : goal.invariant-ranges_in_all-members
invariant-ranges_in_all-members l =
    all_of (range_rules l.at l.kind) l.found (trees_of (map tree (drop l.filter-index l.filters)))
    ≡ all_of (range_rules l.at l.kind) anywhere (trees_of (map tree l.filters))

abbrev pub invariant-ranges_in_any-members : goal.invariant-ranges_in_any-members
invariant-ranges_in_any-members l =
    any_of (range_rules l.at l.kind) l.found (trees_of (map tree (drop l.filter-index l.filters)))
    ≡ any_of (range_rules l.at l.kind) nowhere (trees_of (map tree l.filters))
