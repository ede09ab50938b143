-- Filters that suit a type, one after the other.
use Rattle.std.proofs.Common.{◌≡◌, ◌<◌, true, List, [], ◌∷◌, length, map, get_or, drop, ℕ, zero}
use Rattle.std.proofs.Common.{suc, sym, subst, arith}
use Rattle.std.proofs.lemmas.Bool.{and_parts}
use Rattle.gm_types.specs.Specification.{Specification}
use Rattle.gm_filter.specs.declared.filter.Filter.{Filter}
use Rattle.gm_filter.specs.Suitability.{suits, all_suit}
use Rattle.gm_filter.specs.Tree.{tree, trees_of}

-- the next of some filters that suit a type suits it
pub next_suits : (s : Specification) (fs : List Filter) (i : ℕ) (f : Filter) → i < length fs
    → f ≡ get_or fs i f → all_suit s (trees_of (map tree (drop i fs))) ≡ true
    → suits s (tree f) ≡ true
next_suits s [] i f there is h = absurd (omega arith)
next_suits s (g ∷ fs) zero f there is h =
    subst (λ (x : Filter). suits s (tree x) ≡ true) (sym is)
    (and_parts (suits s (tree g)) (all_suit s (trees_of (map tree fs))) h).0
next_suits s (g ∷ fs) (suc i) f there is h = next_suits s fs i f (omega arith) is h
