-- Lists made of the numbers of a range, one after the other.
use Rattle.std.proofs.Common.{◌≡◌, ℕ, ◌+◌, List, ◌++◌, ap, ◌∙◌, arith, append-nil}
use Rattle.std.specs.List.{flat_map, range_with_len}
use Rattle.std.proofs.lemmas.Grind.{flat_map-append}
use Rattle.gm_plan.proofs.Times.{range_split}

pub flat_next : {X : Type 0} (g : ℕ → List X) (n : ℕ)
    → flat_map g (range_with_len 0 (n + 1)) ≡ flat_map g (range_with_len 0 n) ++ g n
flat_next g n =
    let e : 0 + n ≡ n = omega arith in
    ap (flat_map g) (range_split 0 n 1)
    ∙ flat_map-append g (range_with_len 0 n) (range_with_len (0 + n) 1)
    ∙ ap (λ k. flat_map g (range_with_len 0 n) ++ flat_map g (range_with_len k 1)) e
    ∙ ap (λ xs. flat_map g (range_with_len 0 n) ++ xs) (append-nil (g n))
