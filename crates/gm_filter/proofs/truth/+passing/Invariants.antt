use Rattle.std.proofs.Common.{◌≡◌, map, drop}
use Rattle.gm_filter.specs.Tree.{tree, trees_of}
use Rattle.gm_filter.specs.Trial.{MayTryAll}
use Rattle.gm_filter.specs.Truth.{are_all_true, is_any_true}
use Rattle.gm_filter.proofs.truth.+passing.Given as goal

abbrev pub invariant-are_all_passed-members : goal.invariant-are_all_passed-members
invariant-are_all_passed-members l = record {
  may_try : MayTryAll l.feature (trees_of (map tree (drop l.filter-index l.filters)));
  same : are_all_true l.feature (trees_of (map tree (drop l.filter-index l.filters)))
      ≡ are_all_true l.feature (trees_of (map tree l.filters));
}

abbrev pub invariant-is_any_passed-members : goal.invariant-is_any_passed-members
invariant-is_any_passed-members l = record {
  may_try : MayTryAll l.feature (trees_of (map tree (drop l.filter-index l.filters)));
  same : is_any_true l.feature (trees_of (map tree (drop l.filter-index l.filters)))
      ≡ is_any_true l.feature (trees_of (map tree l.filters));
}
