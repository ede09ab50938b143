-- Parts of a text: what stands between marks, those in single quotes left out of account, and texts
-- without blanks at their ends.
use Rattle.std.specs.Prelude.{ℕ, ◌+◌, Bool, false, not, ◌&&◌, ◌==◌, if◌then◌else◌, List, [], ◌∷◌}
use Rattle.std.specs.Prelude.{length, take, drop, Option, Some, None}
use Rattle.std.specs.List.{prefix_len, onto_first}
use Rattle.gm_base.specs.Ascii.{single_quote, is_blank}

-- whether a quote is open behind a byte
abbrev pub turned : Bool → ℕ → Bool
turned open_quote byte = if byte == single_quote then not open_quote else open_quote

-- the byte is the mark, and no quote is open
abbrev pub ends_part : ℕ → Bool → ℕ → Bool
ends_part mark open_quote byte = not open_quote && byte == mark

-- the parts between the marks, where a quote is open already or not
unfoldable pub parts_from : ℕ → Bool → List ℕ → List (List ℕ)
parts_from mark open_quote [] = [] ∷ []
parts_from mark open_quote (byte ∷ bytes) =
    if ends_part mark open_quote byte then [] ∷ parts_from mark false bytes
    else onto_first byte (parts_from mark (turned open_quote byte) bytes)

abbrev pub parts_of : ℕ → List ℕ → List (List ℕ)
parts_of mark text = parts_from mark false text

-- the bytes before the first mark
abbrev pub part_len : ℕ → Bool → List ℕ → ℕ
part_len mark open_quote [] = 0
part_len mark open_quote (byte ∷ bytes) =
    if ends_part mark open_quote byte then 0 else 1 + part_len mark (turned open_quote byte) bytes

-- what stands before and behind the first mark, if there is one
unfoldable pub cut_once : ℕ → List ℕ → Option (List ℕ × List ℕ)
cut_once mark text =
    let len = part_len mark false text in
    if len == length text then None else Some (take len text, drop (len + 1) text)

-- a byte before a text that has no blanks at its end
abbrev pub before_end : ℕ → List ℕ → List ℕ
before_end byte [] = if is_blank byte then [] else byte ∷ []
before_end byte (next ∷ bytes) = byte ∷ next ∷ bytes

-- a text without the blanks at its end, and without those at either end
abbrev pub trimmed_end : List ℕ → List ℕ
trimmed_end [] = []
trimmed_end (byte ∷ bytes) = before_end byte (trimmed_end bytes)

abbrev pub trimmed : List ℕ → List ℕ
trimmed text = trimmed_end (drop (prefix_len is_blank text) text)
