-- The ranges of keys that a query by an index reads.
use Rattle.std.specs.Prelude.{ℕ, ◌/◌, ◌-◌, nat_lt, if◌then◌else◌, List, [], ◌∷◌, length, map}
use Rattle.std.specs.Prelude.{slice_index}
use Rattle.std.specs.List.{flat_map}
use Rattle.gm_calendar.specs.declared.period.Period.{Period}
use Rattle.gm_geom.specs.declared.point.Box2.{Box2}
use Rattle.gm_trees.specs.declared.window.Window.{Window}
use Rattle.gm_trees.specs.Tree.{Shape}
use Rattle.gm_trees.specs.Z.{z_shape}
use Rattle.gm_trees.specs.Xz.{xz_shape}
use Rattle.gm_split.specs.Explained.{explained_runs, stop_level}
use Rattle.gm_types.specs.declared.index.IndexKind.{IndexKind}
use Rattle.gm_types.specs.declared.index.IndexKind.TheVariants.{Id, Z2, Z3, Xz2, Xz3, Attr}
use Rattle.gm_types.specs.Specification.{Specification, period_of, shards_of, z2_bits_of}
use Rattle.gm_types.specs.Specification.{z3_bits_of, precision_of}
use Rattle.gm_filter.specs.Tree.{Tree}
use Rattle.gm_bounds.specs.declared.bound.Bound.{Bound}
use Rattle.gm_bounds.specs.declared.bound.Bound.TheVariants.{World, Listed}
use Rattle.gm_bounds.specs.declared.byte_range.ByteRange.{ByteRange}
use Rattle.gm_bounds.specs.declared.interval.Interval.{Interval}
use Rattle.gm_bounds.specs.declared.ranges.KeyRanges.{KeyRanges}
use Rattle.gm_bounds.specs.declared.ranges.Range.{Range}
use Rattle.gm_bounds.specs.declared.ranges.Range.TheVariants.{Codes, InBin, Span, Values, OneId}
use Rattle.gm_bounds.specs.declared.ranges.Range.TheVariants.{All}
use Rattle.gm_bounds.specs.Space.{boxes_of}
use Rattle.gm_bounds.specs.Values.{byte_ranges_of}
use Rattle.gm_bounds.specs.Identifiers.{ids_of}
use Rattle.gm_bounds.specs.Time.{intervals_of}
use Rattle.gm_plan.specs.Bins.{bins_of}
use Rattle.gm_plan.specs.Merging.{merged}
use Rattle.gm_plan.specs.Windows.{windows_of, windows_in}

-- the list of a bound; none where it is the world
abbrev pub list_of : {X : Type 0} → Bound X → List X
list_of World = []
list_of (Listed xs) = xs

-- runs of codes, and the level of their cells
abbrev pub code_range : ℕ → ℕ × ℕ → Range
code_range level run = Codes run.0 run.1 level

abbrev pub bin_range : ℕ → ℕ → ℕ × ℕ → Range
bin_range bin_number level run = InBin bin_number run.0 run.1 level

-- the explained runs of windows in the plane
unfoldable pub plane_ranges : Shape → List Window → ℕ → List Range
plane_ranges s windows target =
    map (code_range (stop_level 2 s windows target)) (explained_runs 2 s windows target)

-- those of windows in a bin
unfoldable pub bin_ranges : Shape → ℕ → List Window → ℕ → List Range
bin_ranges s bin_number windows target =
    map (bin_range bin_number (stop_level 3 s windows target)) (explained_runs 3 s windows target)

-- from the first of the bins to the last
abbrev pub span_of_bins : List ℕ → Range
span_of_bins bins = Span (slice_index bins 0) (slice_index bins (length bins - 1))

-- each bin with its own windows and its part of the target; of more bins than the target, all their
-- codes
unfoldable pub ranges_in_bins : Shape → (ℕ → List Window) → List ℕ → ℕ → List Range
ranges_in_bins s windows bins target =
    if nat_lt target (length bins) then span_of_bins bins ∷ []
    else flat_map
    (λ bin_number. bin_ranges s bin_number (windows bin_number) (target / length bins)) bins

-- the same of boxes and intervals: with no box there is no range
abbrev pub space_ranges : Shape → Period → ℕ → List Box2 → List Interval → ℕ → List Range
space_ranges s period bits [] intervals target = []
space_ranges s period bits (b ∷ boxes) intervals target =
    ranges_in_bins s (windows_in period bits (b ∷ boxes) intervals)
    (bins_of period intervals) target

-- one range for each identifier, and all keys where nothing is known of it
abbrev pub id_ranges : Bound (List ℕ) → List Range
id_ranges World = All ∷ []
id_ranges (Listed ids) = map (λ id. OneId id) ids

abbrev pub value_range : ByteRange → Range
value_range r = Values r.low r.high

abbrev pub value_ranges : List ByteRange → List Range
value_ranges ranges = map value_range (merged ranges)

abbrev pub in_shards : ℕ → List Range → KeyRanges
in_shards shards ranges = record { shards = shards; ranges = ranges }

-- the ranges of an index for a filter, at most so many for each shard
abbrev pub key_ranges : Specification → IndexKind → Tree → ℕ → KeyRanges
key_ranges s Id t target = in_shards 1 (id_ranges (ids_of t))
key_ranges s Z2 t target =
    in_shards (shards_of s)
    (plane_ranges (z_shape 2 (z2_bits_of s))
    (windows_of (z2_bits_of s) (list_of (boxes_of s t))) target)
key_ranges s Z3 t target =
    in_shards (shards_of s)
    (space_ranges (z_shape 3 (z3_bits_of s)) (period_of s) (z3_bits_of s) (list_of (boxes_of s t))
    (list_of (intervals_of s t)) target)
key_ranges s Xz2 t target =
    in_shards (shards_of s)
    (plane_ranges (xz_shape 2 (precision_of s))
    (windows_of (precision_of s) (list_of (boxes_of s t))) target)
key_ranges s Xz3 t target =
    in_shards (shards_of s)
    (space_ranges (xz_shape 3 (precision_of s)) (period_of s) (precision_of s)
    (list_of (boxes_of s t)) (list_of (intervals_of s t)) target)
key_ranges s (Attr attribute) t target =
    in_shards 1 (value_ranges (list_of (byte_ranges_of s attribute t)))
