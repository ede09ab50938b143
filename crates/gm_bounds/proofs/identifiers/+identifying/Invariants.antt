use Rattle.std.proofs.Common.{◌≡◌, map, drop}
use Rattle.gm_filter.specs.Tree.{tree, trees_of}
use Rattle.gm_bounds.specs.Bound.{all_of, any_of}
use Rattle.gm_bounds.specs.Identifiers.{id_rules, IsRisingBound}
use Rattle.gm_bounds.specs.Lists.{anywhere, nowhere}
use Rattle.gm_bounds.proofs.identifiers.+identifying.Given as goal

abbrev pub invariant-ids_in_all-members : goal.invariant-ids_in_all-members
invariant-ids_in_all-members l = record {
  rising : IsRisingBound l.found;
  same : all_of id_rules l.found (trees_of (map tree (drop l.filter-index l.filters)))
      ≡ all_of id_rules anywhere (trees_of (map tree l.filters));
}

abbrev pub invariant-ids_in_any-members : goal.invariant-ids_in_any-members
invariant-ids_in_any-members l =
    any_of id_rules l.found (trees_of (map tree (drop l.filter-index l.filters)))
    ≡ any_of id_rules nowhere (trees_of (map tree l.filters))
