use Rattle.std.proofs.Common.{◌≡◌, map, drop}
use Rattle.gm_filter.specs.Tree.{tree, trees_of}
use Rattle.gm_bounds.specs.Bound.{all_of, any_of}
use Rattle.gm_bounds.specs.Lists.{anywhere, nowhere}
use Rattle.gm_bounds.specs.Time.{interval_rules}
use Rattle.gm_bounds.proofs.time.+timing.Given as goal

abbrev pub invariant-intervals_in_all-members : goal.invariant-intervals_in_all-members
invariant-intervals_in_all-members l =
    all_of (interval_rules l.at) l.found (trees_of (map tree (drop l.filter-index l.filters)))
    ≡ all_of (interval_rules l.at) anywhere (trees_of (map tree l.filters))

abbrev pub invariant-intervals_in_any-members : goal.invariant-intervals_in_any-members
invariant-intervals_in_any-members l =
    any_of (interval_rules l.at) l.found (trees_of (map tree (drop l.filter-index l.filters)))
    ≡ any_of (interval_rules l.at) nowhere (trees_of (map tree l.filters))
