-- Values as bytes that stand in the order of the values, and that show where they end.
use Rattle.std.specs.Prelude.{ℕ, ◌<◌, ◌^◌, Bool, ℤ, List, [], ◌∷◌, ◌++◌, All, IsUtf8, bit_xor}
use Rattle.std.specs.Prelude.{if◌then◌else◌}
use Rattle.std.specs.Int.{cast_unsigned, w32, w64}
use Rattle.gm_base.specs.Ascii.{null_byte}
use Rattle.byteorder.specs.Endian.{big_bytes}

-- a number of 32 bits: its two's complement with the first bit flipped, in four bytes
unfoldable pub int_bytes : ℤ → List ℕ
int_bytes value = big_bytes 4 (bit_xor (cast_unsigned w32 value) (2 ^ 31))

-- a number of 64 bits: its two's complement with the first bit flipped, in eight bytes
unfoldable pub long_bytes : ℤ → List ℕ
long_bytes value = big_bytes 8 (bit_xor (cast_unsigned w64 value) (2 ^ 63))

-- an instant: its milliseconds, as a number of 64 bits
abbrev pub date_bytes : ℤ → List ℕ
date_bytes at = long_bytes at

-- a truth: 1 or 0
abbrev pub bool_bytes : Bool → List ℕ
bool_bytes truth = (if truth then 1 else 0) ∷ []

-- a text: its bytes, and 0
abbrev pub text_bytes : List ℕ → List ℕ
text_bytes text = text ++ null_byte ∷ []

-- no byte is 0: only such a text has a lexicoded form
abbrev pub HasNoZero : List ℕ → Type 0
HasNoZero text = All (λ byte. 0 < byte) text

-- UTF-8 without a byte 0
pub record IsLexicalText (text : List ℕ) : Type 0 where
  pub utf8 : IsUtf8 text
  pub no_zero : HasNoZero text
