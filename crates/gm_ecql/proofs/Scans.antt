-- Runs of bytes at the front of a text.
use Rattle.std.proofs.Common.{◌≡◌, ℕ, suc, ◌+◌, Bool, true, false, cond, List, []}
use Rattle.std.proofs.Common.{◌∷◌, ◌++◌, length, take, drop, refl, ap, ◌∙◌, subst, arith}
use Rattle.std.specs.List.{list_all, prefix_len}
use Rattle.gm_base.proofs.Lists.{take_front, drop_front}
use Rattle.std.proofs.lemmas.Bool.{and_parts}
use Rattle.gm_ecql.specs.Token.{Stops}

pub run : (test : ℕ → Bool) (bs rest : List ℕ) → list_all test bs ≡ true → Stops test rest
    → prefix_len test (bs ++ rest) ≡ length bs
run test [] [] all stops = refl
run test [] (b ∷ rest) all stops = ap (λ t. cond t (1 + prefix_len test rest) 0) stops
run test (b ∷ bs) rest all stops =
    let each : (test b ≡ true) × (list_all test bs ≡ true) =
    and_parts (test b) (list_all test bs) all in
    ap (λ t. cond t (1 + prefix_len test (bs ++ rest)) 0) each.0
    ∙ ap (λ n. 1 + n) (run test bs rest each.1 stops) ∙ omega arith

pub take_run : (test : ℕ → Bool) (bs rest : List ℕ) → list_all test bs ≡ true → Stops test rest
    → take (prefix_len test (bs ++ rest)) (bs ++ rest) ≡ bs
take_run test bs rest all stops =
    ap (λ n. take n (bs ++ rest)) (run test bs rest all stops) ∙ take_front bs rest

pub drop_run : (test : ℕ → Bool) (bs rest : List ℕ) → list_all test bs ≡ true → Stops test rest
    → drop (prefix_len test (bs ++ rest)) (bs ++ rest) ≡ rest
drop_run test bs rest all stops =
    ap (λ n. drop n (bs ++ rest)) (run test bs rest all stops) ∙ drop_front bs rest

pub run_stops : (test : ℕ → Bool) (bytes : List ℕ) → Stops test (drop (prefix_len test bytes) bytes)
run_stops test [] = tt
run_stops test (b ∷ bytes) =
    elim (test b) as
    (λ t. test b ≡ t → Stops test (drop (cond t (1 + prefix_len test bytes) 0) (b ∷ bytes))) [
      | true ↦ λ e. subst (λ n. Stops test (drop n (b ∷ bytes))) (more (prefix_len test bytes))
          (run_stops test bytes)
      | false ↦ λ e. e
    ] refl
  where
    more : (n : ℕ) → suc n ≡ 1 + n
    more n = omega arith
