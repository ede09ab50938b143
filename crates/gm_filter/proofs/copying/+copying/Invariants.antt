use Rattle.std.proofs.Common.{◌≡◌, take, map}
use Rattle.gm_filter.specs.Tree.{tree}
use Rattle.gm_filter.proofs.copying.+copying.Given as goal

abbrev pub invariant-copy_all-loop-filter : goal.invariant-copy_all-loop-filter
invariant-copy_all-loop-filter l =
    map tree l.copies.items ≡ map tree (take l.filter-index l.filters)
