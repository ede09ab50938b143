-- What a line is before it is read as a command.
use Rattle.std.specs.Prelude.{ℕ, ◌-◌, ◌==◌, Bool, true, if◌then◌else◌, List, [], ◌∷◌, length, take}
use Rattle.std.specs.List.{ends_with}
use Rattle.std.specs.Prelude.{nat_eq}
use Rattle.gm_base.specs.Ascii.{carriage_return, number_sign}

-- the line without the one 0x0D at its end
-- the most bytes of a line
abbrev pub line_limit : ℕ
line_limit = 1048576

abbrev pub without_return : List ℕ → List ℕ
without_return line =
    if ends_with nat_eq line (carriage_return ∷ []) then take (length line - 1) line else line

-- whether nothing but blanks stands there, or a comment: a `#` past the blanks
abbrev pub says_nothing : List ℕ → Bool
says_nothing [] = true
says_nothing (byte ∷ bytes) = byte == number_sign
