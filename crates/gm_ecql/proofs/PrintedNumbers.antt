-- Printed numbers are pieces of numbers, before each end, and are read as they were.
use Rattle.std.proofs.Common.{◌≡◌, ℕ, zero, suc, ◌<◌, Bool, true, false, not, ◌&&◌, ◌==◌, List, []}
use Rattle.std.proofs.Common.{◌∷◌, ◌++◌, length, take, slice_index, refl, sym, ◌∙◌, ap, subst}
use Rattle.std.proofs.Common.{arith, eqb-true}
use Rattle.std.specs.Prelude.{IsSome}
use Rattle.std.specs.List.{list_all}
use Rattle.std.specs.Char.{is_ascii_digit}
use Rattle.std.proofs.lemmas.Bool.Decides.{nat_tests}
use Rattle.std.proofs.lemmas.Bool.{and_parts}
use Rattle.gm_calendar.specs.Spelling.{has_date_form, is_instant_byte}
use Rattle.gm_geom.specs.Number.{number_of}
use Rattle.gm_ecql.specs.Token.{a_number, is_number_start, Starts, IsPiece}
use Rattle.gm_ecql.proofs.Dates.{date_shape, date_first}
use Rattle.gm_ecql.proofs.Lexemes.{Ends, is_end, ends_number}

abbrev pub is_no_dash : ℕ → Bool
is_no_dash b = not (b == 45)

dash_not : {P : Type 0} (b : ℕ) → b ≡ 45 → is_no_dash b ≡ true → P
dash_not b e h = absurd (no (subst (λ z. is_no_dash z ≡ true) e h))
  where
    no : false ≡ true → ⊥
    no e = absurd (cc)

end_no_instant : {P : Type 0} (b : ℕ) → is_end b ≡ true → is_instant_byte b ≡ true → P
end_no_instant b e h = absurd (grind (arith, nat_tests))

-- none of the first bytes is a dash
dash_at : (bytes rest : List ℕ) (i k : ℕ) → list_all is_no_dash bytes ≡ true → Ends rest
    → list_all is_instant_byte (take k (bytes ++ rest)) ≡ true
    → length (take k (bytes ++ rest)) ≡ k → i < k
    → slice_index (take k (bytes ++ rest)) i ≡ 45 → ⊥
dash_at bytes rest i zero d e a l f h = absurd (omega arith)
dash_at [] [] i (suc k) d e a l f h = absurd (omega (arith, l))
dash_at [] (b ∷ bs) i (suc k) d e a l f h = end_no_instant b e (and_parts (is_instant_byte b) _ a).0
dash_at (b ∷ bs) rest zero (suc k) d e a l f h = dash_not b h (and_parts (is_no_dash b) _ d).0
dash_at (b ∷ bs) rest (suc i) (suc k) d e a l f h =
    dash_at bs rest i k (and_parts (is_no_dash b) _ d).1 e (and_parts (is_instant_byte b) _ a).1
    (omega (arith, l)) (omega arith) h

plain_no_date : (bytes rest : List ℕ) → list_all is_no_dash bytes ≡ true → Ends rest
    → has_date_form (take 10 (bytes ++ rest)) ≡ false
plain_no_date bytes rest d e = by_form (has_date_form (take 10 (bytes ++ rest))) refl
  where
    by_form : (x : Bool) → has_date_form (take 10 (bytes ++ rest)) ≡ x → x ≡ false
    by_form false h = refl
    by_form true h =
        let s = take 10 (bytes ++ rest) in
        let shape = date_shape s h in
        let marks = and_parts
        ((length s == 10) && ((slice_index s 4 == 45) && (slice_index s 7 == 45))) _ h in
        let dashes = and_parts (length s == 10) _ marks.0 in
        let at_four = and_parts (slice_index s 4 == 45) (slice_index s 7 == 45) dashes.1 in
        absurd (dash_at bytes rest 4 10 d e shape.all shape.len (omega arith)
        (eqb-true (slice_index s 4) 45 at_four.0))

minus_no_date : (bytes rest : List ℕ) → has_date_form (take 10 ((45 ∷ bytes) ++ rest)) ≡ false
minus_no_date bytes rest = by_form (has_date_form (take 10 ((45 ∷ bytes) ++ rest))) refl
  where
    no : is_ascii_digit 45 ≡ true → ⊥
    no e = absurd (cc)

    by_form : (x : Bool) → has_date_form (take 10 ((45 ∷ bytes) ++ rest)) ≡ x → x ≡ false
    by_form false h = refl
    by_form true h = absurd (no (date_first (take 10 ((45 ∷ bytes) ++ rest)) h))

-- a dash stands first alone
abbrev pub IsSigned : List ℕ → Type 0
IsSigned [] = ⊥
IsSigned (b ∷ bs) = (is_number_start b ≡ true) × (list_all is_no_dash bs ≡ true)

signed_no_date : (bytes rest : List ℕ) → IsSigned bytes → Ends rest
    → has_date_form (take 10 (bytes ++ rest)) ≡ false
signed_no_date [] rest s e = absurd s
signed_no_date (b ∷ bs) rest s e = by_dash (b == 45) refl
  where
    by_dash : (x : Bool) → (b == 45) ≡ x → has_date_form (take 10 ((b ∷ bs) ++ rest)) ≡ false
    by_dash true h =
        subst (λ z. has_date_form (take 10 ((z ∷ bs) ++ rest)) ≡ false) (sym (eqb-true b 45 h))
        (minus_no_date bs rest)
    by_dash false h =
        plain_no_date (b ∷ bs) rest (ap (λ x. not x && list_all is_no_dash bs) h ∙ s.1) e

signed_starts : (bytes : List ℕ) → IsSigned bytes → Starts is_number_start bytes
signed_starts [] s = absurd s
signed_starts (b ∷ bs) s = s.0

pub number_piece : (bytes : List ℕ) → IsSigned bytes → IsSome (number_of bytes) → (rest : List ℕ)
    → Ends rest → IsPiece bytes (a_number bytes) rest
number_piece bytes s n rest e = record {
  written = refl;
  starts = signed_starts bytes s;
  no_date = signed_no_date bytes rest s e;
  number = n;
  ends = ends_number rest e;
}
