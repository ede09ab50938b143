-- Trees of lists of filters.
use Rattle.std.proofs.Common.{◌≡◌, suc, List, [], ◌∷◌, length, map, refl, ap}
use Rattle.gm_filter.specs.declared.filter.Filter.{Filter}
use Rattle.gm_filter.specs.Tree.{tree, trees_of, members_of}

pub length-trees : (fs : List Filter) → length (members_of (trees_of (map tree fs))) ≡ length fs
length-trees [] = refl
length-trees (f ∷ fs) = ap (λ n. suc n) (length-trees fs)
