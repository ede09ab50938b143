-- A piece that spells a token is what the scanner finds.
use Rattle.std.proofs.Common.{◌≡◌, ℕ, zero, suc, ◌+◌, ◌-◌, ◌<◌, true, false, ◌==◌, cond, List, []}
use Rattle.std.proofs.Common.{◌∷◌, ◌++◌, length, take, drop, Option, Some, None, refl, sym, ap, ◌∙◌}
use Rattle.std.proofs.Common.{subst, arith, append_assoc, inl, inr}
use Rattle.std.specs.Prelude.{ℤ, IsSome}
use Rattle.std.specs.List.{list_all, prefix_len}
use Rattle.std.specs.Char.{is_ascii_digit}
use Rattle.std.proofs.lemmas.Bool.Decides.{nat_tests}
use Rattle.std.proofs.lemmas.Bool.{and_parts}
use Rattle.gm_base.proofs.Lists.{take_front, drop_front}
use Rattle.gm_base.proofs.Booleans.{neither_of}
use Rattle.gm_geom.specs.Number.{number_of}
use Rattle.gm_calendar.specs.Spelling.{instant_of, has_date_form, is_instant_byte}
use Rattle.gm_ecql.specs.declared.token.Symbol.{Symbol}
use Rattle.gm_ecql.specs.declared.token.Symbol.TheVariants as symbol
use Rattle.gm_ecql.specs.Token.{Seen, a_keyword, a_name, a_text, an_instant, a_number, a_symbol}
use Rattle.gm_ecql.specs.Token.{is_word_start, is_word_byte, is_no_double, is_single, is_less_tail}
use Rattle.gm_ecql.specs.Token.{is_more_tail, is_number_start, doubled, Stops, IsPiece, IsWord}
use Rattle.gm_ecql.specs.Token.{IsKeyword, IsInstantPiece, IsNumberPiece, SymbolEnds, symbol_text}
use Rattle.std.specs.Prelude.{IsUtf8, slice_index}
use Rattle.std.specs.Str.{is_utf8}
use Rattle.std.proofs.lemmas.Str.{is_utf8-from_IsUtf8, IsUtf8-from_is_utf8, IsUtf8-from_ascii}
use Rattle.gm_ecql.specs.declared.keyword.Keyword.{Keyword}
use Rattle.gm_ecql.specs.Keyword.{keyword_of}
use Rattle.gm_ecql.specs.Scanner.{Found, if_utf8, a_name_then, a_text_then, a_number_then, as_word}
use Rattle.gm_ecql.specs.Scanner.{closed_name, text_end, text_cut, if_instant, instant_at}
use Rattle.gm_ecql.specs.Scanner.{number_end, if_number, number_at, less_at, more_at, as_symbol}
use Rattle.gm_ecql.specs.Scanner.{numeric_at, token_at}
use Rattle.gm_ecql.proofs.Dates.{date_shape, date_first, take_more}
use Rattle.gm_ecql.proofs.Scans.{take_run, drop_run}
use Rattle.gm_ecql.proofs.Sound.{undoubled_doubled, drop_one}
use Rattle.gm_ecql.proofs.Numbers.{number_joins, joined_end, joined_ascii}

pub utf8_is : (bytes : List ℕ) (found : Found) → IsUtf8 bytes → if_utf8 bytes found ≡ found
utf8_is bytes found u = ap (λ x. cond x found None) (is_utf8-from_IsUtf8 bytes u)

-- and nothing is found of what is none
pub no_utf8 : (bytes : List ℕ) (found : Found) → (IsUtf8 bytes → ⊥) → None ≡ if_utf8 bytes found
no_utf8 bytes found n =
    elim (is_utf8 bytes) as (λ x. is_utf8 bytes ≡ x → None ≡ cond x found None) [
      | true ↦ λ e. absurd (n (IsUtf8-from_is_utf8 bytes e))
      | false ↦ λ e. refl
    ] refl

word_byte_ascii : (b : ℕ) → is_word_byte b ≡ true → b < 128
word_byte_ascii b e = grind (arith, nat_tests)

pub word_ascii : (bs : List ℕ) → list_all is_word_byte bs ≡ true → (i : ℕ) → slice_index bs i < 128
word_ascii [] all i = omega arith
word_ascii (b ∷ bs) all zero =
    word_byte_ascii b (and_parts (is_word_byte b) (list_all is_word_byte bs) all).0
word_ascii (b ∷ bs) all (suc i) =
    word_ascii bs (and_parts (is_word_byte b) (list_all is_word_byte bs) all).1 i

word_found : (b : ℕ) (bs rest : List ℕ) → is_word_start b ≡ true
    → list_all is_word_byte (b ∷ bs) ≡ true → Stops is_word_byte rest
    → token_at (b ∷ (bs ++ rest)) ≡ as_word (keyword_of (b ∷ bs)) (b ∷ bs) rest
unfolding token_at
word_found b bs rest e all s =
    let text = (b ∷ bs) ++ rest in
    let back = drop (prefix_len is_word_byte text) text in
    rw e (ap (λ z. as_word (keyword_of z) z back) (take_run is_word_byte (b ∷ bs) rest all s)
    ∙ ap (λ z. as_word (keyword_of (b ∷ bs)) (b ∷ bs) z)
    (drop_run is_word_byte (b ∷ bs) rest all s))

keyword_found : (piece rest : List ℕ) (k : Keyword) → IsKeyword piece k rest
    → token_at (piece ++ rest) ≡ Some (a_keyword k, rest)
keyword_found [] rest k p = absurd p.word.starts
keyword_found (b ∷ bs) rest k p =
    word_found b bs rest p.word.starts p.word.all p.word.ends
    ∙ ap (λ o. as_word o (b ∷ bs) rest) p.named

plain_found : (bytes rest : List ℕ) → IsWord bytes rest → keyword_of bytes ≡ None
    → token_at (bytes ++ rest) ≡ Some (a_name bytes, rest)
plain_found [] rest w e = absurd w.starts
plain_found (b ∷ bs) rest w e =
    word_found b bs rest w.starts w.all w.ends ∙ ap (λ o. as_word o (b ∷ bs) rest) e
    ∙ utf8_is (b ∷ bs) (a_name_then (b ∷ bs) rest)
    (IsUtf8-from_ascii (b ∷ bs) (word_ascii (b ∷ bs) w.all))

closed_is : (bytes rest : List ℕ) → 0 < length bytes → IsUtf8 bytes
    → closed_name bytes (34 ∷ rest) ≡ Some (a_name bytes, rest)
closed_is [] rest some u = absurd (omega arith)
closed_is (b ∷ bs) rest some u = utf8_is (b ∷ bs) (a_name_then (b ∷ bs) rest) u

name_found : (bytes rest : List ℕ) → 0 < length bytes → list_all is_no_double bytes ≡ true
    → IsUtf8 bytes → token_at (34 ∷ (bytes ++ 34 ∷ rest)) ≡ Some (a_name bytes, rest)
unfolding token_at
name_found bytes rest some all u =
    ap (λ z. closed_name z
    (drop (prefix_len is_no_double (bytes ++ 34 ∷ rest)) (bytes ++ 34 ∷ rest)))
    (take_run is_no_double bytes (34 ∷ rest) all refl)
    ∙ ap (λ z. closed_name bytes z) (drop_run is_no_double bytes (34 ∷ rest) all refl)
    ∙ closed_is bytes rest some u

end_at_quote : (rest : List ℕ) (at : ℕ) → Stops is_single rest
    → text_end at false (39 ∷ rest) ≡ Some at
unfolding text_end
end_at_quote [] at s = ap (λ n. Some n) one
  where
    one : at + 1 - 1 ≡ at
    one = omega arith
end_at_quote (b ∷ rest) at s =
    ap (λ x. cond x (text_end (at + 1 + 1) false rest) (Some (at + 1 - 1))) s ∙ ap (λ n. Some n) one
  where
    one : at + 1 - 1 ≡ at
    one = omega arith

text_ends : (bytes rest : List ℕ) (at : ℕ) → Stops is_single rest
    → text_end at false (doubled bytes ++ 39 ∷ rest) ≡ Some (at + length (doubled bytes))
unfolding text_end
text_ends [] rest at s = end_at_quote rest at s ∙ ap (λ n. Some n) none
  where
    none : at ≡ at + 0
    none = omega arith
text_ends (b ∷ bs) rest at s =
    elim (b == 39) as
    (λ x. (b == 39) ≡ x
    → text_end at false (cond x (39 ∷ 39 ∷ doubled bs) (b ∷ doubled bs) ++ 39 ∷ rest)
    ≡ Some (at + length (cond x (39 ∷ 39 ∷ doubled bs) (b ∷ doubled bs)))) [
      | true ↦ λ e. text_ends bs rest (at + 1 + 1) s ∙ ap (λ n. Some n) (two (length (doubled bs)))
      | false ↦ λ e. ap
          (λ x. cond x (text_end (at + 1) true (doubled bs ++ 39 ∷ rest))
          (text_end (at + 1) false (doubled bs ++ 39 ∷ rest))) e ∙ text_ends bs rest (at + 1) s
          ∙ ap (λ n. Some n) (one (length (doubled bs)))
    ] refl
  where
    two : (n : ℕ) → at + 1 + 1 + n ≡ at + suc (suc n)
    two n = omega arith

    one : (n : ℕ) → at + 1 + n ≡ at + suc n
    one n = omega arith

text_found : (bytes rest : List ℕ) → IsUtf8 (doubled bytes) → Stops is_single rest
    → token_at (39 ∷ (doubled bytes ++ 39 ∷ rest)) ≡ Some (a_text bytes, rest)
unfolding token_at
text_found bytes rest u s =
    let all = doubled bytes ++ 39 ∷ rest in
    let n = length (doubled bytes) in
    ap (λ o. text_cut o all) (text_ends bytes rest 0 s) ∙ ap (λ k. text_cut (Some k) all) none
    ∙ ap (λ z. if_utf8 z (a_text_then z (drop (n + 1) all)))
    (take_front (doubled bytes) (39 ∷ rest))
    ∙ utf8_is (doubled bytes) (a_text_then (doubled bytes) (drop (n + 1) all)) u
    ∙ ap (λ z. Some (a_text z, drop (n + 1) all)) (undoubled_doubled bytes)
    ∙ ap (λ z. Some (a_text bytes, z)) (drop_one (doubled bytes) rest 39)
  where
    none : 0 + length (doubled bytes) ≡ length (doubled bytes)
    none = omega arith

start_no_word : (b : ℕ) → is_number_start b ≡ true → is_word_start b ≡ false
start_no_word b e = grind (arith, nat_tests)

start_no_double : (b : ℕ) → is_number_start b ≡ true → (b == 34) ≡ false
start_no_double b e = grind (arith, nat_tests)

start_no_single : (b : ℕ) → is_number_start b ≡ true → (b == 39) ≡ false
start_no_single b e = grind (arith, nat_tests)

numeric_found : (b : ℕ) (bs : List ℕ) → is_number_start b ≡ true
    → token_at (b ∷ bs) ≡ numeric_at (b ∷ bs)
unfolding token_at
numeric_found b bs e = rw (start_no_word b e, start_no_double b e, start_no_single b e, e) refl

pub digit_starts : (b : ℕ) → is_ascii_digit b ≡ true → is_number_start b ≡ true
digit_starts b e = grind (arith, nat_tests)

-- a date begins with a digit
date_starts : (b : ℕ) (bs : List ℕ) → has_date_form (take 10 (b ∷ bs)) ≡ true
    → is_number_start b ≡ true
date_starts b bs e = digit_starts b (date_first (take 10 (b ∷ bs)) e)

no_date_empty : has_date_form (take 10 []) ≡ true → ⊥
no_date_empty e = absurd (cc)

ten_of : (piece rest : List ℕ) → has_date_form (take 10 piece) ≡ true
    → take 10 (piece ++ rest) ≡ take 10 piece
ten_of piece rest e = take_more 10 piece rest (date_shape (take 10 piece) e).len

instant_found : (piece rest : List ℕ) (ms : ℤ) → IsInstantPiece piece ms rest
    → token_at (piece ++ rest) ≡ Some (an_instant ms, rest)
instant_found [] rest ms p = absurd (no_date_empty p.date)
instant_found (b ∷ bs) rest ms p =
    let all = (b ∷ bs) ++ rest in
    numeric_found b (bs ++ rest) (date_starts b bs p.date)
    ∙ ap (λ x. cond x (instant_at all) (number_at all))
    (ap has_date_form (ten_of (b ∷ bs) rest p.date) ∙ p.date)
    ∙ ap (λ z. if_instant (instant_of z) (drop (prefix_len is_instant_byte all) all))
    (take_run is_instant_byte (b ∷ bs) rest p.all p.ends)
    ∙ ap (λ z. if_instant (instant_of (b ∷ bs)) z)
    (drop_run is_instant_byte (b ∷ bs) rest p.all p.ends)
    ∙ ap (λ o. if_instant o rest) p.spelled

if_number_is : {N : Type 0} (o : Option N) (bytes rest : List ℕ) → IsSome o → IsUtf8 bytes
    → if_number o bytes rest ≡ Some (a_number bytes, rest)
if_number_is None bytes rest h u = absurd (cc)
if_number_is (Some n) bytes rest h u = utf8_is bytes (a_number_then bytes rest) u

number_found : (bytes rest : List ℕ) → IsNumberPiece bytes bytes rest
    → token_at (bytes ++ rest) ≡ Some (a_number bytes, rest)
number_found [] rest p = absurd p.starts
number_found (b ∷ bs) rest p =
    let all = (b ∷ bs) ++ rest in
    let n : number_end 0 true all ≡ length (b ∷ bs) =
    joined_end (b ∷ bs) rest true (number_joins (b ∷ bs) p.number) p.ends in
    numeric_found b (bs ++ rest) p.starts
    ∙ ap (λ x. cond x (instant_at all) (number_at all)) p.no_date
    ∙ ap (λ k. if_number (number_of (take k all)) (take k all) (drop k all)) n
    ∙ ap (λ z. if_number (number_of z) z (drop (length (b ∷ bs)) all)) (take_front (b ∷ bs) rest)
    ∙ ap (λ z. if_number (number_of (b ∷ bs)) (b ∷ bs) z) (drop_front (b ∷ bs) rest)
    ∙ if_number_is (number_of (b ∷ bs)) (b ∷ bs) rest p.number
    (IsUtf8-from_ascii (b ∷ bs) (joined_ascii (b ∷ bs) true (number_joins (b ∷ bs) p.number)))

no_less : (b : ℕ) → is_less_tail b ≡ false → ((b == 62) ≡ false) × ((b == 61) ≡ false)
no_less b e = neither_of (b == 62) (b == 61) e

less_found : (rest : List ℕ) → Stops is_less_tail rest → less_at rest ≡ (symbol.Less, rest)
less_found [] s = refl
less_found (b ∷ rest) s =
    ap (λ x. cond x (symbol.NotEqual, rest)
    (cond (b == 61) (symbol.AtMost, rest) (symbol.Less, b ∷ rest))) (no_less b s).0
    ∙ ap (λ x. cond x (symbol.AtMost, rest) (symbol.Less, b ∷ rest)) (no_less b s).1

more_found : (rest : List ℕ) → Stops is_more_tail rest → more_at rest ≡ (symbol.More, rest)
more_found [] s = refl
more_found (b ∷ rest) s = ap (λ x. cond x (symbol.AtLeast, rest) (symbol.More, b ∷ rest)) s

symbol_found : (s : Symbol) (rest : List ℕ) → SymbolEnds s rest
    → token_at (symbol_text s ++ rest) ≡ Some (a_symbol s, rest)
unfolding token_at
symbol_found symbol.Opening rest e = refl
symbol_found symbol.Closing rest e = refl
symbol_found symbol.Comma rest e = refl
symbol_found symbol.Equal rest e = refl
symbol_found symbol.NotEqual rest e = refl
symbol_found symbol.Less rest e = ap as_symbol (less_found rest e)
symbol_found symbol.AtMost rest e = refl
symbol_found symbol.More rest e = ap as_symbol (more_found rest e)
symbol_found symbol.AtLeast rest e = refl
symbol_found symbol.Slash rest e = refl

pub token_complete : (t : Seen) (piece rest : List ℕ) → IsPiece piece t rest
    → token_at (piece ++ rest) ≡ Some (t, rest)
token_complete (a_keyword k) piece rest p = keyword_found piece rest k p
token_complete (a_name bytes) piece rest (inl p) =
    ap (λ z. token_at (z ++ rest)) p.written
    ∙ plain_found bytes rest (subst (λ z. IsWord z rest) p.written p.word) p.none
token_complete (a_name bytes) piece rest (inr p) =
    ap (λ z. token_at (z ++ rest)) p.written
    ∙ ap (λ z. token_at (34 ∷ z)) (append_assoc bytes (34 ∷ []) rest)
    ∙ name_found bytes rest p.some p.all p.utf8
token_complete (a_text bytes) piece rest p =
    ap (λ z. token_at (z ++ rest)) p.written
    ∙ ap (λ z. token_at (39 ∷ z)) (append_assoc (doubled bytes) (39 ∷ []) rest)
    ∙ text_found bytes rest p.utf8 p.ends
token_complete (an_instant ms) piece rest p = instant_found piece rest ms p
token_complete (a_number bytes) piece rest p =
    ap (λ z. token_at (z ++ rest)) p.written
    ∙ number_found bytes rest
    (record {
      written = refl;
      starts = p.starts;
      no_date = ap (λ z. has_date_form (take 10 (z ++ rest))) (sym p.written) ∙ p.no_date;
      number = p.number;
      ends = p.ends;
    })
token_complete (a_symbol s) piece rest p =
    ap (λ z. token_at (z ++ rest)) p.written ∙ symbol_found s rest p.ends
