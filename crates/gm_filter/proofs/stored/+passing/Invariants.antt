use Rattle.std.proofs.Common.{◌≡◌, true, map, drop}
use Rattle.gm_feature.specs.declared.feature.Feature.{Feature}
use Rattle.gm_feature.specs.Stored.{IsStored}
use Rattle.gm_filter.specs.Suitability.{all_suit}
use Rattle.gm_filter.specs.Tree.{tree, trees_of}
use Rattle.gm_filter.specs.Truth.{are_all_true, is_any_true}
use Rattle.gm_filter.proofs.stored.+passing.Given as goal

abbrev pub invariant-are_all_passed-members : goal.invariant-are_all_passed-members
invariant-are_all_passed-members l = record {
  suits : all_suit l.stored.of.now (trees_of (map tree (drop l.filter-index l.filters))) ≡ true;
  same : (f : Feature) → IsStored l.stored f
      → are_all_true f (trees_of (map tree (drop l.filter-index l.filters)))
      ≡ are_all_true f (trees_of (map tree l.filters));
}

abbrev pub invariant-is_any_passed-members : goal.invariant-is_any_passed-members
invariant-is_any_passed-members l = record {
  suits : all_suit l.stored.of.now (trees_of (map tree (drop l.filter-index l.filters))) ≡ true;
  same : (f : Feature) → IsStored l.stored f
      → is_any_true f (trees_of (map tree (drop l.filter-index l.filters)))
      ≡ is_any_true f (trees_of (map tree l.filters));
}
