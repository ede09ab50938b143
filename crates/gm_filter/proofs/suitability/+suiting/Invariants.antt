use Rattle.std.proofs.Common.{◌≡◌, map, drop}
use Rattle.gm_filter.specs.Tree.{tree, trees_of}
use Rattle.gm_filter.specs.Suitability.{all_suit}
use Rattle.gm_filter.proofs.suitability.+suiting.Given as goal

abbrev pub invariant-all_suit-members : goal.invariant-all_suit-members
invariant-all_suit-members l =
    all_suit l.of (trees_of (map tree (drop l.filter-index l.filters)))
    ≡ all_suit l.of (trees_of (map tree l.filters))
