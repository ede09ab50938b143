-- The first bytes of a key.
use Rattle.std.specs.Prelude.{◌≡◌, ℕ, ◌*◌, ◌+◌, ◌<◌, List, [], ◌∷◌, zero, suc, ⊤}

-- the first byte, and 0 where there is none
abbrev pub first_of : List ℕ → ℕ
first_of [] = 0
first_of (byte ∷ bytes) = byte

-- the others
abbrev pub rest_of : List ℕ → List ℕ
rest_of [] = []
rest_of (byte ∷ bytes) = bytes

-- a number, and after it the first n bytes as its further digits in base 256, with 0 for those that
-- lack
abbrev pub front_after : ℕ → ℕ → List ℕ → ℕ
front_after so_far zero bytes = so_far
front_after so_far (suc n) bytes = front_after (so_far * 256 + first_of bytes) n (rest_of bytes)

-- each of the first n is a byte
abbrev pub AreBytes : ℕ → List ℕ → Type 0
AreBytes zero bytes = ⊤
AreBytes (suc n) bytes = (first_of bytes < 256) × AreBytes n (rest_of bytes)

-- the number of the first 16 bytes
pub record IsFront (front_number : ℕ) (bytes : List ℕ) : Type 0 where
  pub front : front_number ≡ front_after 0 16 bytes
  pub are_bytes : AreBytes 16 bytes

-- the number of the first four bytes, and the bytes behind these
pub record IsNumberOfFour (first_four : ℕ) (bytes rest : List ℕ) : Type 0 where
  pub number_is : first_four ≡ front_after 0 4 bytes
  pub are_bytes : AreBytes 4 bytes
  pub others : rest ≡ rest_of (rest_of (rest_of (rest_of bytes)))
