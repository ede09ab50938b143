-- Tests of filters that suit a type, one after the other.
use Rattle.std.proofs.Common.{◌≡◌, ◌<◌, true, List, [], ◌∷◌, length, map, get_or, drop, ℕ, zero}
use Rattle.std.proofs.Common.{suc, sym, subst, arith}
use Rattle.std.proofs.lemmas.Bool.{and_parts}
use Rattle.gm_types.specs.Specification.{Specification}
use Rattle.gm_filter.specs.Suitability.{suits, all_suit}
use Rattle.gm_filter.specs.Tree.{trees_of}
use Rattle.gm_scan.specs.declared.test.Test.{Test}
use Rattle.gm_scan.specs.Test.{tree_of}

-- the next of some tests whose filters suit a type suits it
pub next_suits : (s : Specification) (ts : List Test) (i : ℕ) (t : Test) → i < length ts
    → t ≡ get_or ts i t → all_suit s (trees_of (map tree_of (drop i ts))) ≡ true
    → suits s (tree_of t) ≡ true
next_suits s [] i t there is h = absurd (omega arith)
next_suits s (u ∷ ts) zero t there is h =
    subst (λ (x : Test). suits s (tree_of x) ≡ true) (sym is)
    (and_parts (suits s (tree_of u)) (all_suit s (trees_of (map tree_of ts))) h).0
next_suits s (u ∷ ts) (suc i) t there is h = next_suits s ts i t (omega arith) is h
