-- Ranges as spans of keys: the low end of each is in it, the high end is not.
use Rattle.std.specs.Prelude.{ℕ, List, [], ◌∷◌, ◌++◌, map, Option, Some, None}
use Rattle.std.specs.List.{flat_map, range_with_len}
use Rattle.gm_base.specs.Ascii.{null_byte}
use Rattle.gm_lexi.specs.Ends.{after_of}
use Rattle.gm_types.specs.declared.index.IndexKind.{IndexKind}
use Rattle.gm_types.specs.Specification.{Specification}
use Rattle.gm_keys.specs.Key.{prefix_of, code_front, bin_front, bin_code_front}
use Rattle.gm_bounds.specs.declared.ranges.KeyRanges.{KeyRanges}
use Rattle.gm_bounds.specs.declared.ranges.Range.{Range}
use Rattle.gm_bounds.specs.declared.ranges.Range.TheVariants.{Codes, InBin, Span, Values, OneId}
use Rattle.gm_bounds.specs.declared.ranges.Range.TheVariants.{All}

-- the end of what begins so; nothing begins with 0xFF alone in front of it
abbrev pub end_or_none : Option (List ℕ) → List ℕ
end_or_none None = []
end_or_none (Some end) = end

-- behind all that begins so
abbrev pub end_of : List ℕ → List ℕ
end_of front = end_or_none (after_of front)

-- from what begins with the one to what begins with the other
abbrev pub from_to : List ℕ → List ℕ → List ℕ × List ℕ
from_to low high = (low, end_of high)

-- to the end of a prefix where the values have none
abbrev pub value_end : List ℕ → Option (List ℕ) → List ℕ
value_end prefix None = end_of prefix
value_end prefix (Some high) = prefix ++ high

-- the span of a range in a shard, where keys have that prefix
abbrev pub span_behind : List ℕ → ℕ → Range → List ℕ × List ℕ
span_behind prefix shard (Codes low high level) =
    from_to (code_front prefix shard low) (code_front prefix shard high)
span_behind prefix shard (InBin bin_number low high level) =
    from_to (bin_code_front prefix shard bin_number low)
    (bin_code_front prefix shard bin_number high)
span_behind prefix shard (Span first last) =
    from_to (bin_front prefix shard first) (bin_front prefix shard last)
span_behind prefix shard (Values low high) = (prefix ++ low, value_end prefix high)
span_behind prefix shard (OneId id) = (prefix ++ id, (prefix ++ id) ++ null_byte ∷ [])
span_behind prefix shard All = from_to prefix prefix

abbrev pub spans_in : List ℕ → List Range → ℕ → List (List ℕ × List ℕ)
spans_in prefix ranges shard = map (span_behind prefix shard) ranges

-- those of the first shard in order, then those of the next
abbrev pub spans_of : Specification → IndexKind → KeyRanges → List (List ℕ × List ℕ)
spans_of s kind of = flat_map (spans_in (prefix_of s kind) of.ranges) (range_with_len 0 of.shards)
