use Rattle.std.proofs.Common.{◌≡◌, ◌≤◌, ◌++◌, length, map, take, drop}
use Rattle.gm_filter.specs.Tree.{tree, trees_of}
use Rattle.gm_strategy.specs.Branches.{branches_in, trees_in}
use Rattle.gm_strategy.proofs.branches.+gathering.Given as goal

abbrev pub invariant-gather_all-members : goal.invariant-gather_all-members
invariant-gather_all-members l = record {
  few : length l.into.items ≤ 9;
  same : take 9 (trees_in l.into.items
      ++ branches_in (trees_of (map tree (drop l.filter-index l.filters))))
      ≡ take 9 (trees_in l.fn.into.items ++ branches_in (trees_of (map tree l.filters)));
}
