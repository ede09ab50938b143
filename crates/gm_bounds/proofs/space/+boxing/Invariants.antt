use Rattle.std.proofs.Common.{◌≡◌, map, drop}
use Rattle.gm_filter.specs.Tree.{tree, trees_of}
use Rattle.gm_bounds.specs.Bound.{all_of, any_of}
use Rattle.gm_bounds.specs.Lists.{anywhere, nowhere}
use Rattle.gm_bounds.specs.Space.{box_rules}
use Rattle.gm_bounds.specs.Kept.{AllHaveKept}
use Rattle.gm_bounds.proofs.space.+boxing.Given as goal

abbrev pub invariant-boxes_in_all-members : goal.invariant-boxes_in_all-members
invariant-boxes_in_all-members l = record {
  has_kept : AllHaveKept (trees_of (map tree (drop l.filter-index l.filters)));
  same : all_of (box_rules l.at l.points) l.found
      (trees_of (map tree (drop l.filter-index l.filters)))
      ≡ all_of (box_rules l.at l.points) anywhere (trees_of (map tree l.filters));
}

abbrev pub invariant-boxes_in_any-members : goal.invariant-boxes_in_any-members
invariant-boxes_in_any-members l = record {
  has_kept : AllHaveKept (trees_of (map tree (drop l.filter-index l.filters)));
  same : any_of (box_rules l.at l.points) l.found
      (trees_of (map tree (drop l.filter-index l.filters)))
      ≡ any_of (box_rules l.at l.points) nowhere (trees_of (map tree l.filters));
}
