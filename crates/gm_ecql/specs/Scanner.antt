-- The token at the front of a text as a function on its bytes.
use Rattle.std.specs.Prelude.{ℕ, ◌+◌, ◌-◌, Bool, true, false, not, ◌==◌, ◌||◌, ◌&&◌, if◌then◌else◌}
use Rattle.std.specs.Prelude.{List, [], ◌∷◌, take, drop, ℤ, Option, Some, None}
use Rattle.std.specs.List.{prefix_len}
use Rattle.std.specs.Str.{is_utf8}
use Rattle.gm_base.specs.Ascii.{capital_e, closing, comma, double_quote, equals_sign, greater_sign}
use Rattle.gm_base.specs.Ascii.{is_blank, less_sign, opening, single_quote, slash, small_e}
use Rattle.gm_geom.specs.Number.{number_of}
use Rattle.gm_calendar.specs.Spelling.{instant_of, has_date_form, is_instant_byte}
use Rattle.gm_ecql.specs.declared.token.Symbol.{Symbol}
use Rattle.gm_ecql.specs.declared.token.Symbol.TheVariants as symbol
use Rattle.gm_ecql.specs.declared.keyword.Keyword.{Keyword}
use Rattle.gm_ecql.specs.Keyword.{keyword_of}
use Rattle.gm_ecql.specs.Token.{Seen, a_keyword, a_name, a_text, an_instant, a_number, a_symbol}
use Rattle.gm_ecql.specs.Token.{is_word_start, is_word_byte, is_no_double, is_sign}
use Rattle.gm_ecql.specs.Token.{is_number_start, is_number_tail, undoubled}

abbrev pub Found : Type 0
Found = Option (Seen × List ℕ)

abbrev pub if_utf8 : List ℕ → Found → Found
if_utf8 bytes found = if is_utf8 bytes then found else None

abbrev pub a_name_then : List ℕ → List ℕ → Found
a_name_then bytes rest = Some (a_name bytes, rest)

abbrev pub a_text_then : List ℕ → List ℕ → Found
a_text_then raw rest = Some (a_text (undoubled raw), rest)

abbrev pub a_number_then : List ℕ → List ℕ → Found
a_number_then bytes rest = Some (a_number bytes, rest)

abbrev pub as_word : Option Keyword → List ℕ → List ℕ → Found
as_word None word rest = if_utf8 word (a_name_then word rest)
as_word (Some k) word rest = Some (a_keyword k, rest)

abbrev pub word_at : List ℕ → Found
word_at bytes =
    let n = prefix_len is_word_byte bytes in
    as_word (keyword_of (take n bytes)) (take n bytes) (drop n bytes)

abbrev pub closed_name : List ℕ → List ℕ → Found
closed_name [] rest = None
closed_name (b ∷ bs) [] = None
closed_name (b ∷ bs) (c ∷ rest) = if_utf8 (b ∷ bs) (a_name_then (b ∷ bs) rest)

-- behind the opening quote
abbrev pub name_at : List ℕ → Found
name_at bytes =
    closed_name (take (prefix_len is_no_double bytes) bytes)
    (drop (prefix_len is_no_double bytes) bytes)

-- the place of the quote that closes a text; `pending` says that the byte before is a quote that
-- may close it
unfoldable pub text_end : ℕ → Bool → List ℕ → Option ℕ
text_end at false [] = None
text_end at true [] = Some (at - 1)
text_end at pending (b ∷ bs) =
    if b == single_quote then text_end (at + 1) (not pending) bs
    else (if pending then Some (at - 1) else text_end (at + 1) false bs)

abbrev pub text_cut : Option ℕ → List ℕ → Found
text_cut None bytes = None
text_cut (Some n) bytes = if_utf8 (take n bytes) (a_text_then (take n bytes) (drop (n + 1) bytes))

-- behind the opening quote
abbrev pub text_at : List ℕ → Found
text_at bytes = text_cut (text_end 0 false bytes) bytes

abbrev pub if_instant : Option ℤ → List ℕ → Found
if_instant None rest = None
if_instant (Some ms) rest = Some (an_instant ms, rest)

abbrev pub instant_at : List ℕ → Found
instant_at bytes =
    if_instant (instant_of (take (prefix_len is_instant_byte bytes) bytes))
    (drop (prefix_len is_instant_byte bytes) bytes)

abbrev pub is_e : ℕ → Bool
is_e b = b == small_e || b == capital_e

-- a sign goes on with a number at its start and behind its e
abbrev pub goes_on : Bool → ℕ → Bool
goes_on sign b = is_number_tail b || (sign && is_sign b)

unfoldable pub number_end : ℕ → Bool → List ℕ → ℕ
number_end at sign [] = at
number_end at sign (b ∷ bs) = if goes_on sign b then number_end (at + 1) (is_e b) bs else at

abbrev pub if_number : {N : Type 0} → Option N → List ℕ → List ℕ → Found
if_number None bytes rest = None
if_number (Some n) bytes rest = if_utf8 bytes (a_number_then bytes rest)

abbrev pub number_at : List ℕ → Found
number_at bytes =
    if_number (number_of (take (number_end 0 true bytes) bytes))
    (take (number_end 0 true bytes) bytes) (drop (number_end 0 true bytes) bytes)

abbrev pub less_at : List ℕ → Symbol × List ℕ
less_at [] = (symbol.Less, [])
less_at (b ∷ bs) =
    if b == greater_sign then (symbol.NotEqual, bs)
    else (if b == equals_sign then (symbol.AtMost, bs) else (symbol.Less, b ∷ bs))

abbrev pub more_at : List ℕ → Symbol × List ℕ
more_at [] = (symbol.More, [])
more_at (b ∷ bs) = if b == equals_sign then (symbol.AtLeast, bs) else (symbol.More, b ∷ bs)

abbrev pub as_symbol : Symbol × List ℕ → Found
as_symbol p = Some (a_symbol p.0, p.1)

-- by the first byte and what follows it
abbrev pub symbol_at : ℕ → List ℕ → Found
symbol_at b bs =
    if b == opening then as_symbol (symbol.Opening, bs)
    else (if b == closing then as_symbol (symbol.Closing, bs)
    else (if b == comma then as_symbol (symbol.Comma, bs)
    else (if b == equals_sign then as_symbol (symbol.Equal, bs)
    else (if b == slash then as_symbol (symbol.Slash, bs)
    else (if b == less_sign then as_symbol (less_at bs)
    else (if b == greater_sign then as_symbol (more_at bs)
    else None))))))

abbrev pub numeric_at : List ℕ → Found
numeric_at bytes = if has_date_form (take 10 bytes) then instant_at bytes else number_at bytes

unfoldable pub token_at : List ℕ → Found
token_at [] = None
token_at (b ∷ bs) =
    if is_word_start b then word_at (b ∷ bs)
    else (if b == double_quote then name_at bs
    else (if b == single_quote then text_at bs
    else (if is_number_start b then numeric_at (b ∷ bs)
    else symbol_at b bs)))

abbrev pub skip_blanks : List ℕ → List ℕ
skip_blanks bytes = drop (prefix_len is_blank bytes) bytes
