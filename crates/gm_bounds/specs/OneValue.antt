-- Which ranges are of one value.
use Rattle.std.specs.Prelude.{◌≡◌, ◌==◌, ◌&&◌, ◌||◌, ◌^◌, ◌-ℤ◌, ℕ, ℤ, pos, Bool, true, false}
use Rattle.std.specs.Prelude.{if◌then◌else◌, List, [], ◌∷◌, length, nat_lt, Option, Some, None}
use Rattle.std.specs.Prelude.{FitsSigned}
use Rattle.std.specs.Int.{w32, w64}
use Rattle.std.specs.List.{list_all}
use Rattle.std.specs.Option.{option_eq}
use Rattle.std.specs.Str.{bytes_eq, is_utf8}
use Rattle.byteorder.specs.Endian.{big_number}
use Rattle.gm_base.specs.Ascii.{null_byte}
use Rattle.gm_calendar.specs.Instant.{IsInstant, is_instant}
use Rattle.gm_lexi.specs.Ends.{after_of}
use Rattle.gm_lexi.specs.Lexicode.{int_bytes, long_bytes, date_bytes, bool_bytes, text_bytes}
use Rattle.gm_lexi.specs.Lexicode.{IsLexicalText}
use Rattle.gm_types.specs.declared.kind.Kind.{Kind}
use Rattle.gm_types.specs.declared.kind.Kind.TheVariants as kind
use Rattle.gm_bounds.specs.declared.byte_range.ByteRange.{ByteRange}

-- the bytes are the whole lexicoded form of a value of the kind
abbrev pub IsForm : Kind → List ℕ → Type 0
IsForm kind.Text form = (t : List ℕ) × IsLexicalText t × (form ≡ text_bytes t)
IsForm kind.Integer form = (n : ℤ) × FitsSigned w32 n × (form ≡ int_bytes n)
IsForm kind.Long form = (n : ℤ) × FitsSigned w64 n × (form ≡ long_bytes n)
IsForm kind.Boolean form = (b : Bool) × (form ≡ bool_bytes b)
IsForm kind.Date form = (at : ℤ) × IsInstant at × (form ≡ date_bytes at)
IsForm (kind.Geo s) form = ⊥

-- The low end is the whole form of a value, and the high end that of all that begins with it, or
-- missing where that has none.
pub record IsOfOneValue (k : Kind) (r : ByteRange) : Type 0 where
  pub form : IsForm k r.low
  pub end : r.high ≡ after_of r.low

-- ---- the same as tests

abbrev pub is_byte : ℕ → Bool
is_byte n = nat_lt n 256

-- so many bytes
abbrev pub is_wide : ℕ → List ℕ → Bool
is_wide width form = length form == width && list_all is_byte form

abbrev pub nothing_before : List ℕ → Option (List ℕ)
nothing_before [] = Some []
nothing_before (byte ∷ bytes) = None

abbrev pub with_byte : ℕ → Option (List ℕ) → Option (List ℕ)
with_byte byte None = None
with_byte byte (Some text) = Some (byte ∷ text)

-- what stands before a 0 at the end, where that is the only one
abbrev pub before_end : List ℕ → Option (List ℕ)
before_end [] = None
before_end (byte ∷ bytes) =
    if byte == null_byte then nothing_before bytes else with_byte byte (before_end bytes)

abbrev pub is_text_in_utf8 : Option (List ℕ) → Bool
is_text_in_utf8 None = false
is_text_in_utf8 (Some text) = is_utf8 text

-- the number whose form eight bytes are
abbrev pub long_of : List ℕ → ℤ
long_of form = pos (big_number 8 form) -ℤ pos (2 ^ 63)

abbrev pub is_form : Kind → List ℕ → Bool
is_form kind.Text form = is_text_in_utf8 (before_end form)
is_form kind.Integer form = is_wide 4 form
is_form kind.Long form = is_wide 8 form
is_form kind.Boolean form = bytes_eq form (bool_bytes false) || bytes_eq form (bool_bytes true)
is_form kind.Date form = is_wide 8 form && is_instant (long_of form)
is_form (kind.Geo s) form = false

abbrev pub is_of_one_value : Kind → ByteRange → Bool
is_of_one_value k r = is_form k r.low && option_eq bytes_eq r.high (after_of r.low)

-- each of the ranges is
abbrev pub are_of_one_value : Kind → List ByteRange → Bool
are_of_one_value k ranges = list_all (is_of_one_value k) ranges
