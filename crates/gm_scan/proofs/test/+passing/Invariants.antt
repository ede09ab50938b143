use Rattle.std.proofs.Common.{◌≡◌, true, map, drop}
use Rattle.gm_feature.specs.declared.feature.Feature.{Feature}
use Rattle.gm_feature.specs.Stored.{IsStored}
use Rattle.gm_filter.specs.Suitability.{all_suit}
use Rattle.gm_filter.specs.Tree.{trees_of}
use Rattle.gm_filter.specs.Truth.{are_all_true, is_any_true}
use Rattle.gm_scan.specs.Test.{tree_of}
use Rattle.gm_scan.proofs.test.+passing.Given as goal

abbrev pub invariant-pass_all-members : goal.invariant-pass_all-members
invariant-pass_all-members l = record {
  suits : all_suit l.stored.of.now (trees_of (map tree_of (drop l.test-index l.tests))) ≡ true;
  same : (f : Feature) → IsStored l.stored f
      → are_all_true f (trees_of (map tree_of (drop l.test-index l.tests)))
      ≡ are_all_true f (trees_of (map tree_of l.tests));
}

abbrev pub invariant-pass_any-members : goal.invariant-pass_any-members
invariant-pass_any-members l = record {
  suits : all_suit l.stored.of.now (trees_of (map tree_of (drop l.test-index l.tests))) ≡ true;
  same : (f : Feature) → IsStored l.stored f
      → is_any_true f (trees_of (map tree_of (drop l.test-index l.tests)))
      ≡ is_any_true f (trees_of (map tree_of l.tests));
}
