-- The tokens of a text, and how they are spelled: each piece ends where its rule says, and blanks
-- between tokens are free.
use Rattle.std.specs.Prelude.{◌≡◌, ℕ, ◌<◌, Bool, true, false, not, ◌==◌, ◌||◌, if◌then◌else◌, List}
use Rattle.std.specs.Prelude.{[], ◌∷◌, ◌++◌, ◌⊎◌, length, take, map, ℤ, Some, None, IsSome, IsUtf8}
use Rattle.std.specs.List.{list_all}
use Rattle.std.specs.Char.{is_ascii_digit, is_ascii_alphabetic, is_ascii_alphanumeric}
use Rattle.gm_base.specs.Ascii.{closing, comma, decimal_point, double_quote, equals_sign, is_blank}
use Rattle.gm_base.specs.Ascii.{greater_sign, less_sign, minus_sign, opening, plus_sign}
use Rattle.gm_base.specs.Ascii.{single_quote, slash, underscore}
use Rattle.gm_geom.specs.Number.{number_of}
use Rattle.gm_calendar.specs.Spelling.{instant_of, has_date_form, is_instant_byte}
use Rattle.gm_ecql.specs.declared.keyword.Keyword.{Keyword}
use Rattle.gm_ecql.specs.declared.token.Symbol.{Symbol}
use Rattle.gm_ecql.specs.declared.token.Symbol.TheVariants as symbol
use Rattle.gm_ecql.specs.declared.token.Token.{Token}
use Rattle.gm_ecql.specs.declared.token.Token.TheVariants as token
use Rattle.gm_ecql.specs.declared.token.Spaced.{Spaced}
use Rattle.gm_ecql.specs.Keyword.{keyword_of}

-- what a token says: of a word that is no keyword, and of a quoted name, the name, and of a text
-- its bytes with one quote for each pair
pub data Seen : Type 0 where
  a_keyword : Keyword → Seen
  a_name : List ℕ → Seen
  a_text : List ℕ → Seen
  an_instant : ℤ → Seen
  a_number : List ℕ → Seen
  a_symbol : Symbol → Seen

abbrev pub is_word_start : ℕ → Bool
is_word_start b = is_ascii_alphabetic b || b == underscore

abbrev pub is_word_byte : ℕ → Bool
is_word_byte b = is_ascii_alphanumeric b || b == underscore

abbrev pub is_single : ℕ → Bool
is_single b = b == single_quote

abbrev pub is_no_double : ℕ → Bool
is_no_double b = not (b == double_quote)

abbrev pub is_sign : ℕ → Bool
is_sign b = b == plus_sign || b == minus_sign

abbrev pub is_number_start : ℕ → Bool
is_number_start b = (is_ascii_digit b || b == decimal_point) || is_sign b

-- what may not follow a number directly
abbrev pub is_number_tail : ℕ → Bool
is_number_tail b = is_word_byte b || b == decimal_point

abbrev pub is_less_tail : ℕ → Bool
is_less_tail b = b == greater_sign || b == equals_sign

abbrev pub is_more_tail : ℕ → Bool
is_more_tail b = b == equals_sign

-- no byte that passes the test stands first
abbrev pub Stops : (ℕ → Bool) → List ℕ → Type 0
Stops test [] = Unit {0}
Stops test (b ∷ bs) = test b ≡ false

abbrev pub Starts : (ℕ → Bool) → List ℕ → Type 0
Starts test [] = ⊥
Starts test (b ∷ bs) = test b ≡ true

-- each quote written twice
abbrev pub doubled : List ℕ → List ℕ
doubled [] = []
doubled (b ∷ bs) =
    if b == single_quote then single_quote ∷ single_quote ∷ doubled bs else b ∷ doubled bs

-- a quote that follows one that counts is dropped; `behind` says that one stands before
abbrev pub undoubled_from : Bool → List ℕ → List ℕ
undoubled_from behind [] = []
undoubled_from behind (b ∷ bs) =
    if b == single_quote
    then (if behind then undoubled_from false bs else single_quote ∷ undoubled_from true bs)
    else b ∷ undoubled_from false bs

abbrev pub undoubled : List ℕ → List ℕ
undoubled raw = undoubled_from false raw

abbrev pub symbol_text : Symbol → List ℕ
symbol_text symbol.Opening = opening ∷ []
symbol_text symbol.Closing = closing ∷ []
symbol_text symbol.Comma = comma ∷ []
symbol_text symbol.Equal = equals_sign ∷ []
symbol_text symbol.NotEqual = less_sign ∷ greater_sign ∷ []
symbol_text symbol.Less = less_sign ∷ []
symbol_text symbol.AtMost = less_sign ∷ equals_sign ∷ []
symbol_text symbol.More = greater_sign ∷ []
symbol_text symbol.AtLeast = greater_sign ∷ equals_sign ∷ []
symbol_text symbol.Slash = slash ∷ []

-- the longest symbol is meant
abbrev pub SymbolEnds : Symbol → List ℕ → Type 0
SymbolEnds symbol.Opening rest = Unit {0}
SymbolEnds symbol.Closing rest = Unit {0}
SymbolEnds symbol.Comma rest = Unit {0}
SymbolEnds symbol.Equal rest = Unit {0}
SymbolEnds symbol.NotEqual rest = Unit {0}
SymbolEnds symbol.Less rest = Stops is_less_tail rest
SymbolEnds symbol.AtMost rest = Unit {0}
SymbolEnds symbol.More rest = Stops is_more_tail rest
SymbolEnds symbol.AtLeast rest = Unit {0}
SymbolEnds symbol.Slash rest = Unit {0}

-- a letter or `_` and word bytes, as many as there are
pub record IsWord (piece rest : List ℕ) : Type 0 where
  pub starts : Starts is_word_start piece
  pub all : list_all is_word_byte piece ≡ true
  pub ends : Stops is_word_byte rest

-- a word that is a keyword
pub record IsKeyword (piece : List ℕ) (k : Keyword) (rest : List ℕ) : Type 0 where
  pub word : IsWord piece rest
  pub named : keyword_of piece ≡ Some k

-- a word that is none
pub record IsPlainName (piece bytes rest : List ℕ) : Type 0 where
  pub word : IsWord piece rest
  pub written : piece ≡ bytes
  pub none : keyword_of bytes ≡ None

-- UTF-8 of at least one byte and with no double quote, in double quotes
pub record IsQuotedName (piece bytes : List ℕ) : Type 0 where
  pub written : piece ≡ double_quote ∷ (bytes ++ double_quote ∷ [])
  pub some : 0 < length bytes
  pub all : list_all is_no_double bytes ≡ true
  pub utf8 : IsUtf8 bytes

-- UTF-8 in single quotes, each quote inside written twice
pub record IsText (piece bytes rest : List ℕ) : Type 0 where
  pub written : piece ≡ single_quote ∷ (doubled bytes ++ single_quote ∷ [])
  pub utf8 : IsUtf8 (doubled bytes)
  pub ends : Stops is_single rest

-- a date stands first, the bytes of instants go on as far as they do, and they spell it
pub record IsInstantPiece (piece : List ℕ) (ms : ℤ) (rest : List ℕ) : Type 0 where
  pub date : has_date_form (take 10 piece) ≡ true
  pub all : list_all is_instant_byte piece ≡ true
  pub ends : Stops is_instant_byte rest
  pub spelled : instant_of piece ≡ Some ms

-- no date stands first, and what follows would not go on with a number
pub record IsNumberPiece (piece bytes rest : List ℕ) : Type 0 where
  pub written : piece ≡ bytes
  pub starts : Starts is_number_start bytes
  pub no_date : has_date_form (take 10 (piece ++ rest)) ≡ false
  pub number : IsSome (number_of bytes)
  pub ends : Stops is_number_tail rest

pub record IsSymbol (piece : List ℕ) (s : Symbol) (rest : List ℕ) : Type 0 where
  pub written : piece ≡ symbol_text s
  pub ends : SymbolEnds s rest

-- the piece spells the token, where the rest follows it
abbrev pub IsPiece : List ℕ → Seen → List ℕ → Type 0
IsPiece piece (a_keyword k) rest = IsKeyword piece k rest
IsPiece piece (a_name bytes) rest = IsPlainName piece bytes rest ⊎ IsQuotedName piece bytes
IsPiece piece (a_text bytes) rest = IsText piece bytes rest
IsPiece piece (an_instant ms) rest = IsInstantPiece piece ms rest
IsPiece piece (a_number bytes) rest = IsNumberPiece piece bytes rest
IsPiece piece (a_symbol s) rest = IsSymbol piece s rest

abbrev pub is_some_list : List ℕ → Bool
is_some_list [] = false
is_some_list (b ∷ bs) = true

-- the text is blanks, a piece that spells the token, and the rest; `spaced` says whether there are
-- blanks
pub record IsFirst (bytes : List ℕ) (spaced : Bool) (seen : Seen) (rest : List ℕ) : Type 0 where
  pub blanks : List ℕ
  pub piece : List ℕ
  pub written : bytes ≡ blanks ++ (piece ++ rest)
  pub blank : list_all is_blank blanks ≡ true
  pub told : spaced ≡ is_some_list blanks
  pub spelled : IsPiece piece seen rest

-- the text is the pieces of the tokens, end to end
abbrev pub Spells : List ℕ → List (Bool × Seen) → Type 0
Spells bytes [] = bytes ≡ []
Spells bytes (t ∷ ts) = (rest : List ℕ) × IsFirst bytes t.0 t.1 rest × Spells rest ts

-- no blank stands before the first
abbrev pub IsUnspaced : List (Bool × Seen) → Type 0
IsUnspaced [] = Unit {0}
IsUnspaced (t ∷ ts) = t.0 ≡ false

-- the text is the pieces of the tokens, end to end, with blanks between them alone
pub record SpellsTokens (bytes : List ℕ) (tokens : List (Bool × Seen)) : Type 0 where
  pub spelled : Spells bytes tokens
  pub unspaced : IsUnspaced tokens

-- the tokens without their blanks
abbrev pub unspaced : List (Bool × Seen) → List Seen
unspaced = map (λ t. t.1)

-- what contracts see of a token
abbrev pub seen : Token → Seen
seen (token.Keyword k) = a_keyword k
seen (token.Name bytes) = a_name bytes.now
seen (token.Text bytes) = a_text (undoubled bytes.now)
seen (token.Instant at) = an_instant at
seen (token.Number bytes) = a_number bytes.now
seen (token.Symbol s) = a_symbol s

abbrev pub seen_spaced : Spaced → Bool × Seen
seen_spaced s = (s.spaced, seen s.token)

abbrev pub seen_all : List Spaced → List Seen
seen_all = map (λ s. seen s.token)
