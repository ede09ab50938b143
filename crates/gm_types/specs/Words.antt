-- The words of specifications: names, keys and values, and lists in which none stands twice.
use Rattle.std.specs.Prelude.{ℕ, Bool, true, false, not, ◌&&◌, ◌||◌, ◌==◌, nat_le, List, [], ◌∷◌}
use Rattle.std.specs.Prelude.{length}
use Rattle.std.specs.List.{list_all, list_any}
use Rattle.std.specs.Char.{is_ascii_digit, is_ascii_alphabetic}
use Rattle.std.specs.Cmp.Lexicographic.{pointwise}
use Rattle.std.specs.Str.{is_utf8}
use Rattle.gm_base.specs.Ascii.{colon, comma, decimal_point, equals_sign, minus_sign, semicolon}
use Rattle.gm_base.specs.Ascii.{is_blank, single_quote, underscore}

-- two texts are the same, byte by byte
abbrev pub same_text : List ℕ → List ℕ → Bool
same_text = pointwise ◌==◌

-- a letter or `_`
abbrev pub begins_name : ℕ → Bool
begins_name byte = is_ascii_alphabetic byte || byte == underscore

-- a letter, a digit or `_`
abbrev pub continues_name : ℕ → Bool
continues_name byte = begins_name byte || is_ascii_digit byte

-- the most bytes of a name behind its first
abbrev pub name_rest_limit : ℕ
name_rest_limit = 63

abbrev pub continue_name : List ℕ → Bool
continue_name bytes = nat_le (length bytes) name_rest_limit && list_all continues_name bytes

abbrev pub has_name_form : List ℕ → Bool
has_name_form [] = false
has_name_form (first ∷ rest) = begins_name first && continue_name rest

-- a name: a letter or `_`, and up to 63 letters, digits or `_`
unfoldable pub is_name : List ℕ → Bool
is_name bytes = has_name_form bytes

-- a letter, a digit, `_`, `.` or `-`
abbrev pub is_key_byte : ℕ → Bool
is_key_byte byte = continues_name byte || byte == decimal_point || byte == minus_sign

-- a key: one or more of these
unfoldable pub is_key : List ℕ → Bool
is_key bytes = nat_le 1 (length bytes) && list_all is_key_byte bytes

-- a comma, a semicolon, a colon, a `=` or a single quote
abbrev pub is_mark : ℕ → Bool
is_mark byte =
    byte == comma || byte == semicolon || byte == colon || byte == equals_sign
    || byte == single_quote

abbrev pub is_bare_byte : ℕ → Bool
is_bare_byte byte = not (is_mark byte) && not (is_blank byte)

abbrev pub is_bare_form : List ℕ → Bool
is_bare_form bytes = nat_le 1 (length bytes) && list_all is_bare_byte bytes

-- a value that needs no quotes: one or more bytes that are no marks and no blanks
unfoldable pub is_bare : List ℕ → Bool
is_bare bytes = is_bare_form bytes && is_utf8 bytes

abbrev pub has_no_quote : List ℕ → Bool
has_no_quote bytes = list_all (λ byte. not (byte == single_quote)) bytes

-- a value that may stand in quotes: it has none inside
unfoldable pub is_quotable : List ℕ → Bool
is_quotable bytes = has_no_quote bytes && is_utf8 bytes

-- none of the texts stands twice
unfoldable pub are_distinct : List (List ℕ) → Bool
are_distinct [] = true
are_distinct (text ∷ texts) = not (list_any (same_text text) texts) && are_distinct texts
