use Rattle.std.proofs.Common.{◌≡◌, true, map, take, drop}
use Rattle.gm_filter.specs.Suitability.{all_suit}
use Rattle.gm_filter.specs.Tree.{tree, trees_of}
use Rattle.gm_scan.specs.Test.{tree_of}
use Rattle.gm_scan.proofs.test.+preparing.Given as goal

abbrev pub invariant-tests_of-members : goal.invariant-tests_of-members
invariant-tests_of-members l = record {
  suits : all_suit l.of (trees_of (map tree (drop l.filter-index l.filters))) ≡ true;
  made : map tree_of l.tests.items ≡ map tree (take l.filter-index l.filters);
}
