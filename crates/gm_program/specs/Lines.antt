-- A script as lines. Each ends with a 0x0A, or at the end of the script.
use Rattle.std.specs.Prelude.{ℕ, ◌+◌, List, [], ◌∷◌, ◌++◌, take, if◌then◌else◌, ◌==◌}
use Rattle.gm_base.specs.Ascii.{line_feed}
use Rattle.gm_script.specs.Line.{line_limit}

-- the lines that end in these bytes, where so much of the first was before them
abbrev pub complete_from : List ℕ → List ℕ → List (List ℕ)
complete_from held [] = []
complete_from held (byte ∷ bytes) =
    if byte == line_feed then held ∷ complete_from [] bytes
    else complete_from (held ++ byte ∷ []) bytes

-- what comes after the last of them
abbrev pub partial_from : List ℕ → List ℕ → List ℕ
partial_from held [] = held
partial_from held (byte ∷ bytes) =
    if byte == line_feed then partial_from [] bytes else partial_from (held ++ byte ∷ []) bytes

-- the line at the end of a script, if it is not empty
abbrev pub last_line : List ℕ → List (List ℕ)
last_line [] = []
last_line (byte ∷ bytes) = (byte ∷ bytes) ∷ []

abbrev pub lines_of : List ℕ → List (List ℕ)
lines_of script = complete_from [] script ++ last_line (partial_from [] script)

-- the length from which a line is too long: over 1,048,576 bytes
abbrev pub cut_length : ℕ
cut_length = line_limit + 1

-- as much of a line as shows whether it is too long
unfoldable pub cut : List ℕ → List ℕ
cut line = take cut_length line
