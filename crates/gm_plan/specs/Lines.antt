-- Ranges as they are explained.
use Rattle.std.specs.Prelude.{ℕ, List, [], ◌∷◌, ◌++◌, map, codes, Option, Some, None}
use Rattle.std.specs.Fmt.{decimal}
use Rattle.std.specs.List.{flat_map}
use Rattle.hex.specs.Hex.{encode_lower}
use Rattle.gm_base.specs.Ascii.{line_feed}
use Rattle.gm_bounds.specs.declared.ranges.KeyRanges.{KeyRanges}
use Rattle.gm_bounds.specs.declared.ranges.Range.{Range}
use Rattle.gm_bounds.specs.declared.ranges.Range.TheVariants.{Codes, InBin, Span, Values, OneId}
use Rattle.gm_bounds.specs.declared.ranges.Range.TheVariants.{All}

-- a blank, and a number
abbrev pub number_behind : ℕ → List ℕ
number_behind n = codes " " ++ decimal n

-- the ends of a run, and its level
abbrev pub run_text : ℕ → ℕ → ℕ → List ℕ
run_text low high level = decimal low ++ (number_behind high ++ (codes " level " ++ decimal level))

-- in hexadecimal, and `-` for an empty low end and for a high end that is missing
abbrev pub low_text : List ℕ → List ℕ
low_text [] = codes "-"
low_text (byte ∷ bytes) = encode_lower (byte ∷ bytes)

abbrev pub high_text : Option (List ℕ) → List ℕ
high_text None = codes "-"
high_text (Some high) = encode_lower high

abbrev pub values_text : List ℕ → Option (List ℕ) → List ℕ
values_text low high = codes "range " ++ (low_text low ++ (codes " " ++ high_text high))

abbrev pub line_of_range : Range → List ℕ
line_of_range (Codes low high level) = codes "run " ++ run_text low high level
line_of_range (InBin bin_number low high level) =
    codes "run " ++ (decimal bin_number ++ (codes " " ++ run_text low high level))
line_of_range (Span first last) = codes "span " ++ (decimal first ++ number_behind last)
line_of_range (Values low high) = values_text low high
line_of_range (OneId id) = codes "id " ++ id
line_of_range All = codes "all"

-- the lines of ranges, without those of the shards
abbrev pub lines_of : KeyRanges → List (List ℕ)
lines_of of = map line_of_range of.ranges

-- each line ended by 0x0A
abbrev pub ended : List ℕ → List ℕ
ended line = line ++ line_feed ∷ []

abbrev pub text_of_lines : List (List ℕ) → List ℕ
text_of_lines lines = flat_map ended lines
