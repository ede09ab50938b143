-- Runs of bytes at the front of a text.
use Rattle.std.proofs.Common.{◌≡◌, ℕ, suc, ◌+◌, ◌<◌, Bool, true, false, ◌&&◌, cond, List, []}
use Rattle.std.proofs.Common.{◌∷◌, ◌++◌, length, take, drop, refl, sym, ap, ◌∙◌, arith}
use Rattle.std.proofs.lemmas.Bool.{and_parts}
use Rattle.std.specs.List.{list_all, prefix_len}
use Rattle.std.proofs.lemmas.Bool.Decides.{nat_tests}
use Rattle.gm_base.proofs.Lists.{take_front, drop_front, run_passes, take_drop}
use Rattle.gm_geom.specs.Number.{is_number_byte}
use Rattle.gm_base.specs.Ascii.{is_blank}
use Rattle.gm_wkt.specs.Grammar.{AreBlanks}
use Rattle.gm_wkt.specs.Reader.{skip_blanks, Stops, Ends, Starts, begins_blank}

pub run : (test : ℕ → Bool) (bs rest : List ℕ) → list_all test bs ≡ true → Stops test rest
    → prefix_len test (bs ++ rest) ≡ length bs
run test [] [] all stops = refl
run test [] (b ∷ rest) all stops = ap (λ t. cond t (1 + prefix_len test rest) 0) stops
run test (b ∷ bs) rest all stops =
    let each : (test b ≡ true) × (list_all test bs ≡ true) =
    and_parts (test b) (list_all test bs) all in
    ap (λ t. cond t (1 + prefix_len test (bs ++ rest)) 0) each.0
    ∙ ap (λ n. 1 + n) (run test bs rest each.1 stops) ∙ omega arith

pub take_run : (test : ℕ → Bool) (bs rest : List ℕ) → list_all test bs ≡ true → Stops test rest
    → take (prefix_len test (bs ++ rest)) (bs ++ rest) ≡ bs
take_run test bs rest all stops =
    ap (λ n. take n (bs ++ rest)) (run test bs rest all stops) ∙ take_front bs rest

pub drop_run : (test : ℕ → Bool) (bs rest : List ℕ) → list_all test bs ≡ true → Stops test rest
    → drop (prefix_len test (bs ++ rest)) (bs ++ rest) ≡ rest
drop_run test bs rest all stops =
    ap (λ n. drop n (bs ++ rest)) (run test bs rest all stops) ∙ drop_front bs rest

-- blanks before a byte that is none
pub skip_over : (bs rest : List ℕ) → AreBlanks bs → Starts rest → skip_blanks (bs ++ rest) ≡ rest
skip_over bs [] all starts = absurd starts
skip_over bs (b ∷ rest) all starts = drop_run is_blank bs (b ∷ rest) all starts

pub skipped : (bytes : List ℕ) → (bs : List ℕ) × AreBlanks bs × (bytes ≡ bs ++ skip_blanks bytes)
skipped bytes = (
  take (prefix_len is_blank bytes) bytes,
  run_passes is_blank bytes,
  take_drop (prefix_len is_blank bytes) bytes,
)

pub blank_ends : (b : ℕ) → is_blank b ≡ true → is_number_byte b ≡ false
blank_ends b e = grind (arith, nat_tests)

-- blanks and a separator end a number
pub ends_behind : (bs : List ℕ) (b : ℕ) (rest : List ℕ) → AreBlanks bs → is_number_byte b ≡ false
    → Ends (bs ++ b ∷ rest)
ends_behind [] b rest all ends = ends
ends_behind (c ∷ bs) b rest all ends =
    blank_ends c (and_parts (is_blank c) (list_all is_blank bs) all).0

pub number_starts : (b : ℕ) → is_number_byte b ≡ true → is_blank b ≡ false
number_starts b e = grind (arith, nat_tests)

-- a run of blanks at the front
pub blank_gap : (bytes : List ℕ) → begins_blank bytes ≡ true
    → (bs : List ℕ) × (0 < length bs) × AreBlanks bs × (bytes ≡ bs ++ skip_blanks bytes)
blank_gap [] e = absurd (cc)
blank_gap (b ∷ bytes) e =
    let rest = skipped bytes in
    let fewer : skip_blanks (b ∷ bytes) ≡ skip_blanks bytes =
    ap (λ t. drop (cond t (1 + prefix_len is_blank bytes) 0) (b ∷ bytes)) e
    ∙ ap (λ n. drop n (b ∷ bytes)) (one_more (prefix_len is_blank bytes)) in (
      b ∷ rest.0,
      omega arith,
      ap (λ t. t && list_all is_blank rest.0) e
          ∙ rest.1,
      ap (λ t. b ∷ t) (rest.2 ∙ ap (λ t. rest.0 ++ t) (sym fewer)),
    )
  where
    one_more : (n : ℕ) → 1 + n ≡ suc n
    one_more n = omega arith
