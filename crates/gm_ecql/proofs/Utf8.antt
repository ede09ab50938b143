-- What is spelled is UTF-8.
use Rattle.std.proofs.Common.{◌≡◌, ℕ, zero, suc, ◌<◌, Bool, true, ◌&&◌, ◌||◌, ◌==◌, List, []}
use Rattle.std.proofs.Common.{◌∷◌, ◌++◌, refl, sym, ap, subst, arith, inl, inr}
use Rattle.std.specs.Prelude.{IsUtf8, slice_index}
use Rattle.std.specs.List.{list_all}
use Rattle.std.proofs.lemmas.Bool.Decides.{nat_tests}
use Rattle.std.proofs.lemmas.Str.{IsUtf8-append, IsUtf8-from_ascii, IsUtf8-nil}
use Rattle.std.proofs.lemmas.Bool.{and_parts}
use Rattle.gm_calendar.specs.Spelling.{is_instant_byte}
use Rattle.gm_ecql.specs.declared.token.Symbol.{Symbol}
use Rattle.gm_ecql.specs.declared.token.Symbol.TheVariants as symbol
use Rattle.gm_ecql.specs.Token.{Seen, a_keyword, a_name, a_text, an_instant, a_number, a_symbol}
use Rattle.gm_base.specs.Ascii.{is_blank}
use Rattle.gm_ecql.specs.Token.{is_word_byte, doubled, symbol_text, IsPiece, Spells}
use Rattle.gm_ecql.proofs.Complete.{word_ascii}
use Rattle.gm_ecql.proofs.Numbers.{number_joins, joined_ascii}

all_ascii : (test : ℕ → Bool) → ((b : ℕ) → test b ≡ true → b < 128) → (bs : List ℕ)
    → list_all test bs ≡ true → (i : ℕ) → slice_index bs i < 128
all_ascii test below [] all i = omega arith
all_ascii test below (b ∷ bs) all zero = below b (and_parts (test b) (list_all test bs) all).0
all_ascii test below (b ∷ bs) all (suc i) =
    all_ascii test below bs (and_parts (test b) (list_all test bs) all).1 i

blank_ascii : (b : ℕ) → is_blank b ≡ true → b < 128
blank_ascii b e = grind (arith, nat_tests)

instant_ascii : (b : ℕ) → is_instant_byte b ≡ true → b < 128
instant_ascii b e = grind (arith, nat_tests)

utf8_by : (test : ℕ → Bool) → ((b : ℕ) → test b ≡ true → b < 128) → (bs : List ℕ)
    → list_all test bs ≡ true → IsUtf8 bs
utf8_by test below bs all = IsUtf8-from_ascii bs (all_ascii test below bs all)

word_utf8 : (bs : List ℕ) → list_all is_word_byte bs ≡ true → IsUtf8 bs
word_utf8 bs all = IsUtf8-from_ascii bs (word_ascii bs all)

abbrev is_ascii : ℕ → Bool
is_ascii b = b == 34
    || (b == 39 || (b == 40
    || (b == 41 || (b == 44 || (b == 47 || (b == 60 || (b == 61 || b == 62)))))))

ascii_below : (b : ℕ) → is_ascii b ≡ true → b < 128
ascii_below b e = grind (arith, nat_tests)

symbol_utf8 : (s : Symbol) → IsUtf8 (symbol_text s)
symbol_utf8 symbol.Opening = utf8_by is_ascii ascii_below _ refl
symbol_utf8 symbol.Closing = utf8_by is_ascii ascii_below _ refl
symbol_utf8 symbol.Comma = utf8_by is_ascii ascii_below _ refl
symbol_utf8 symbol.Equal = utf8_by is_ascii ascii_below _ refl
symbol_utf8 symbol.NotEqual = utf8_by is_ascii ascii_below _ refl
symbol_utf8 symbol.Less = utf8_by is_ascii ascii_below _ refl
symbol_utf8 symbol.AtMost = utf8_by is_ascii ascii_below _ refl
symbol_utf8 symbol.More = utf8_by is_ascii ascii_below _ refl
symbol_utf8 symbol.AtLeast = utf8_by is_ascii ascii_below _ refl
symbol_utf8 symbol.Slash = utf8_by is_ascii ascii_below _ refl

byte_utf8 : (b : ℕ) → is_ascii b ≡ true → IsUtf8 (b ∷ [])
byte_utf8 b e = utf8_by is_ascii ascii_below (b ∷ []) (ap (λ x. x && true) e)

quoted_utf8 : (b : ℕ) (bs : List ℕ) → is_ascii b ≡ true → IsUtf8 bs → IsUtf8 (b ∷ (bs ++ b ∷ []))
quoted_utf8 b bs e u =
    IsUtf8-append (b ∷ []) (bs ++ b ∷ []) (byte_utf8 b e)
    (IsUtf8-append bs (b ∷ []) u (byte_utf8 b e))

piece_utf8 : (t : Seen) (piece rest : List ℕ) → IsPiece piece t rest → IsUtf8 piece
piece_utf8 (a_keyword k) piece rest p = word_utf8 piece p.word.all
piece_utf8 (a_name bytes) piece rest (inl p) = word_utf8 piece p.word.all
piece_utf8 (a_name bytes) piece rest (inr p) =
    subst (λ z. IsUtf8 z) (sym p.written) (quoted_utf8 34 bytes refl p.utf8)
piece_utf8 (a_text bytes) piece rest p =
    subst (λ z. IsUtf8 z) (sym p.written) (quoted_utf8 39 (doubled bytes) refl p.utf8)
piece_utf8 (an_instant ms) piece rest p = utf8_by is_instant_byte instant_ascii piece p.all
piece_utf8 (a_number bytes) piece rest p =
    subst (λ z. IsUtf8 z) (sym p.written)
    (IsUtf8-from_ascii bytes (joined_ascii bytes true (number_joins bytes p.number)))
piece_utf8 (a_symbol s) piece rest p = subst (λ z. IsUtf8 z) (sym p.written) (symbol_utf8 s)

pub spelled_is_utf8 : (text : List ℕ) (ts : List (Bool × Seen)) → Spells text ts → IsUtf8 text
spelled_is_utf8 text [] s = subst (λ z. IsUtf8 z) (sym s) IsUtf8-nil
spelled_is_utf8 text (t ∷ ts) s =
    let f = s.1 in
    subst (λ z. IsUtf8 z) (sym f.written)
    (IsUtf8-append f.blanks (f.piece ++ s.0) (utf8_by is_blank blank_ascii f.blanks f.blank)
    (IsUtf8-append f.piece s.0 (piece_utf8 t.1 f.piece s.0 f.spelled) (spelled_is_utf8 s.0 ts s.2)))
