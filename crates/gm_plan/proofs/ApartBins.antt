-- The spans of several bins.
use Rattle.std.proofs.Common.{◌≡◌, ℕ, zero, suc, ◌+◌, ◌/◌, ◌^◌, ◌<◌, ◌≤◌, Bool, true, false, List}
use Rattle.std.proofs.Common.{[], ◌∷◌, ◌++◌, map, filter, cond, length, refl, sym, ap, arith, subst}
use Rattle.std.specs.Prelude.{if◌then◌else◌, nat_lt}
use Rattle.std.specs.List.{AllByRecursion, flat_map, range_with_len}
use Rattle.std.proofs.lemmas.Bool.{ltb-false}
use Rattle.std.proofs.lemmas.Nat.{le-div}
use Rattle.gm_base.proofs.Lists.{all_append}
use Rattle.gm_base.specs.Spans.{Span}
use Rattle.gm_calendar.specs.declared.period.Period.{Period}
use Rattle.gm_calendar.specs.declared.period.Period.TheVariants.{Day, Week, Month, Year}
use Rattle.gm_calendar.specs.Period.{last_of}
use Rattle.gm_geom.specs.declared.point.Box2.{Box2}
use Rattle.gm_runs.specs.Runs.{AreRunsFrom}
use Rattle.gm_trees.specs.declared.window.Window.{Window}
use Rattle.gm_trees.specs.Tree.{Shape}
use Rattle.gm_split.specs.Explained.{explained_runs, stop_level}
use Rattle.gm_types.specs.declared.index.IndexKind.{IndexKind}
use Rattle.gm_types.specs.Specification.{Specification, shards_of}
use Rattle.gm_keys.specs.Key.{prefix_of}
use Rattle.gm_bounds.specs.declared.interval.Interval.{Interval}
use Rattle.gm_bounds.specs.declared.ranges.Range.{Range}
use Rattle.gm_bounds.specs.declared.ranges.Range.TheVariants as range
use Rattle.gm_plan.specs.Bins.{bins_of, is_met}
use Rattle.gm_plan.specs.Covering.{IsCurve}
use Rattle.gm_plan.specs.KeyRanges.{code_range, bin_range, plane_ranges, bin_ranges, ranges_in_bins}
use Rattle.gm_plan.specs.KeyRanges.{space_ranges, span_of_bins}
use Rattle.gm_plan.specs.Spans.{span_behind, spans_in}
use Rattle.gm_plan.specs.Windows.{windows_in}
use Rattle.gm_plan.proofs.ApartCodes.{ByteLaws, AreCurved, is_curved, shards_exclusive}
use Rattle.gm_plan.proofs.ApartShards.{SmallRun, run_and_bin, in_bin_exclusive, plane_exclusive}
use Rattle.gm_plan.proofs.ApartSpans.{Excludes, AreExclusive, exclusive_append}
use Rattle.gm_plan.proofs.InPlane.{runs_narrow, shards_few}
use Rattle.gm_plan.proofs.Within.{CodeLaws, AreNarrow}

-- ---- bins that rise
abbrev AreBinsFrom : ℕ → List ℕ → Type 0
AreBinsFrom least [] = Unit {0}
AreBinsFrom least (n ∷ bins) = (least ≤ n) × (n < 2 ^ 16) × AreBinsFrom (n + 1) bins

from_lower : (least more : ℕ) (bins : List ℕ) → least ≤ more → AreBinsFrom more bins
    → AreBinsFrom least bins
from_lower least more [] h rise = tt
from_lower least more (n ∷ bins) h rise = (chain least more n h rise.0, rise.1, rise.2)
  where
    chain : (a b c : ℕ) → a ≤ b → b ≤ c → a ≤ c
    chain a b c h g = omega arith

kept_by : (b : Bool) (from : ℕ) (bins : List ℕ) → from < 2 ^ 16 → AreBinsFrom (from + 1) bins
    → AreBinsFrom from (cond b (from ∷ bins) bins)
kept_by true from bins small rise = (itself from, small, rise)
  where
    itself : (n : ℕ) → n ≤ n
    itself n = omega arith
kept_by false from bins small rise = from_lower from (from + 1) bins (omega arith) rise

bins_rise : (p : ℕ → Bool) (from n : ℕ) → from + n ≤ 2 ^ 16
    → AreBinsFrom from (filter p (range_with_len from n))
bins_rise p from zero most = tt
bins_rise p from (suc n) most =
    kept_by (p from) from (filter p (range_with_len (from + 1) n)) (omega arith)
    (bins_rise p (from + 1) n (omega arith))

last_small : (period : Period) → 0 + (last_of period + 1) ≤ 2 ^ 16
last_small Day = omega arith
last_small Week = omega arith
last_small Month = omega arith
last_small Year = omega arith

bins_of_rise : (period : Period) (intervals : List Interval)
    → AreBinsFrom 0 (bins_of period intervals)
unfolding bins_of
bins_of_rise period intervals =
    bins_rise (is_met period intervals) 0 (last_of period + 1) (last_small period)

spans_append : (prefix : List ℕ) (xs ys : List Range) (shard : ℕ)
    → spans_in prefix (xs ++ ys) shard ≡ spans_in prefix xs shard ++ spans_in prefix ys shard
spans_append prefix [] ys shard = refl
spans_append prefix (x ∷ xs) ys shard =
    ap (λ zs. span_behind prefix shard x ∷ zs) (spans_append prefix xs ys shard)

module _ (laws : CodeLaws) (s : Specification) (kind : IndexKind) (shape : Shape)
    (curve : IsCurve 3 shape) (windows : ℕ → List Window) (part : ℕ) (some : 1 ≤ part) where
  abbrev in_one : ℕ → List Range
  in_one n = bin_ranges shape n (windows n) part

  module _ (shard : ℕ) (few : shard < 256) where
    one_exclusive : (n : ℕ) → n < 2 ^ 16
        → AreExclusive (spans_in (prefix_of s kind) (in_one n) shard)
    unfolding bin_ranges
    one_exclusive n small =
        in_bin_exclusive laws s kind shard few n (stop_level 3 shape (windows n) part) 0
        (explained_runs 3 shape (windows n) part) small
        (curve.rise (windows n) part) (runs_narrow 3 shape curve (windows n) part some)

    run_and_one : (n m level low high : ℕ) → n < 2 ^ 16 → m < 2 ^ 16 → n < m → SmallRun low high
        → AllByRecursion
        (λ y. Excludes (span_behind (prefix_of s kind) shard (range.InBin n low high level)) y)
        (spans_in (prefix_of s kind) (in_one m) shard)
    unfolding bin_ranges
    run_and_one n m level low high small-n small-m less one =
        run_and_bin laws s kind shard few n m level (stop_level 3 shape (windows m) part) low high 0
        (explained_runs 3 shape (windows m) part) small-n small-m less one
        (curve.rise (windows m) part) (runs_narrow 3 shape curve (windows m) part some)

    run_and_more : (n level low high least : ℕ) (bins : List ℕ) → n < 2 ^ 16 → n < least
        → SmallRun low high → AreBinsFrom least bins
        → AllByRecursion
        (λ y. Excludes (span_behind (prefix_of s kind) shard (range.InBin n low high level)) y)
        (spans_in (prefix_of s kind) (flat_map in_one bins) shard)
    run_and_more n level low high least [] small less one rise = tt
    run_and_more n level low high least (m ∷ bins) small less one rise =
        let x = span_behind (prefix_of s kind) shard (range.InBin n low high level) in
        subst (λ (spans : List Span). AllByRecursion (λ y. Excludes x y) spans)
        (sym (spans_append (prefix_of s kind) (in_one m) (flat_map in_one bins) shard))
        (all_append (λ y. Excludes x y) (spans_in (prefix_of s kind) (in_one m) shard)
        (spans_in (prefix_of s kind) (flat_map in_one bins) shard)
        (run_and_one n m level low high small rise.1 (chain n least m less rise.0) one)
        (run_and_more n level low high (m + 1) bins small
        (further n least m less rise.0) one rise.2))
      where
        chain : (a b c : ℕ) → a < b → b ≤ c → a < c
        chain a b c h g = omega arith

        further : (a b c : ℕ) → a < b → b ≤ c → a < c + 1
        further a b c h g = omega arith

    runs_and_more : (n level least : ℕ) (bins : List ℕ) (runs : List (ℕ × ℕ)) → n < 2 ^ 16
        → AreBinsFrom (n + 1) bins → AreRunsFrom least runs → AreNarrow runs
        → AllByRecursion
        (λ x. AllByRecursion (λ y. Excludes x y)
        (spans_in (prefix_of s kind) (flat_map in_one bins) shard))
        (spans_in (prefix_of s kind) (map (bin_range n level) runs) shard)
    runs_and_more n level least bins [] small up rise narrow = tt
    runs_and_more n level least bins (run ∷ runs) small up rise narrow = (
      run_and_more n level run.0 run.1 (n + 1) bins small (next n)
          (record { rises = rise.1; low_small = narrow.0.0; high_small = narrow.0.1 }) up,
      runs_and_more n level (run.1 + 2) bins runs small up rise.2 narrow.1,
    )
      where
        next : (a : ℕ) → a < a + 1
        next a = omega arith

    one_and_more : (n : ℕ) (bins : List ℕ) → n < 2 ^ 16 → AreBinsFrom (n + 1) bins
        → AllByRecursion
        (λ x. AllByRecursion (λ y. Excludes x y)
        (spans_in (prefix_of s kind) (flat_map in_one bins) shard))
        (spans_in (prefix_of s kind) (in_one n) shard)
    unfolding bin_ranges
    one_and_more n bins small up =
        runs_and_more n (stop_level 3 shape (windows n) part) 0 bins
        (explained_runs 3 shape (windows n) part) small up
        (curve.rise (windows n) part) (runs_narrow 3 shape curve (windows n) part some)

    flat_exclusive : (least : ℕ) (bins : List ℕ) → AreBinsFrom least bins
        → AreExclusive (spans_in (prefix_of s kind) (flat_map in_one bins) shard)
    flat_exclusive least [] rise = tt
    flat_exclusive least (n ∷ bins) rise =
        subst (λ (spans : List Span). AreExclusive spans)
        (sym (spans_append (prefix_of s kind) (in_one n) (flat_map in_one bins) shard))
        (exclusive_append (spans_in (prefix_of s kind) (in_one n) shard)
        (spans_in (prefix_of s kind) (flat_map in_one bins) shard)
        (one_exclusive n rise.1) (flat_exclusive (n + 1) bins rise.2)
        (one_and_more n bins rise.1 rise.2))

-- ---- the ranges are of curves
bin_curved : (n level : ℕ) (runs : List (ℕ × ℕ)) → AreCurved (map (bin_range n level) runs)
bin_curved n level [] = tt
bin_curved n level (run ∷ runs) = (refl, bin_curved n level runs)

one_curved : (shape : Shape) (n : ℕ) (ws : List Window) (part : ℕ)
    → AreCurved (bin_ranges shape n ws part)
unfolding bin_ranges
one_curved shape n ws part =
    bin_curved n (stop_level 3 shape ws part) (explained_runs 3 shape ws part)

flat_curved : (shape : Shape) (windows : ℕ → List Window) (part : ℕ) (bins : List ℕ)
    → AreCurved (flat_map (λ n. bin_ranges shape n (windows n) part) bins)
flat_curved shape windows part [] = tt
flat_curved shape windows part (n ∷ bins) =
    all_append (λ r. is_curved r ≡ true) (bin_ranges shape n (windows n) part)
    (flat_map (λ n. bin_ranges shape n (windows n) part) bins)
    (one_curved shape n (windows n) part) (flat_curved shape windows part bins)

codes_curved : (level : ℕ) (runs : List (ℕ × ℕ)) → AreCurved (map (code_range level) runs)
codes_curved level [] = tt
codes_curved level (run ∷ runs) = (refl, codes_curved level runs)

plane_curved : (shape : Shape) (ws : List Window) (target : ℕ)
    → AreCurved (plane_ranges shape ws target)
unfolding plane_ranges
plane_curved shape ws target =
    codes_curved (stop_level 2 shape ws target) (explained_runs 2 shape ws target)

-- ---- all of a plane, and all of space
small_shards : (s : Specification) → 0 + shards_of s ≤ 256
small_shards s = most (shards_of s) (shards_few s).1
  where
    most : (n : ℕ) → n ≤ 127 → 0 + n ≤ 256
    most n h = omega arith

pub all_plane : ByteLaws → CodeLaws → (s : Specification) (kind : IndexKind) (shape : Shape)
    → IsCurve 2 shape → (ws : List Window) (target : ℕ) → 1 ≤ target
    → AreExclusive
    (flat_map (spans_in (prefix_of s kind) (plane_ranges shape ws target))
    (range_with_len 0 (shards_of s)))
all_plane bytes laws s kind shape curve ws target some =
    shards_exclusive bytes s kind (plane_ranges shape ws target) (plane_curved shape ws target)
    (λ shard few. plane_exclusive laws s kind shard few shape curve ws target some) 0 (shards_of s)
    (small_shards s)

module _ (bytes : ByteLaws) (laws : CodeLaws) (s : Specification) (kind : IndexKind) (shape : Shape)
    (curve : IsCurve 3 shape) where
  abbrev Apart : List Range → Type 0
  Apart ranges =
      AreExclusive (flat_map (spans_in (prefix_of s kind) ranges) (range_with_len 0 (shards_of s)))

  one_span : (bins : List ℕ) → Apart (span_of_bins bins ∷ [])
  one_span bins =
      shards_exclusive bytes s kind (span_of_bins bins ∷ []) (refl, tt) (λ shard few. (tt, tt)) 0
      (shards_of s) (small_shards s)

  each_bin : (windows : ℕ → List Window) (bins : List ℕ) (target : ℕ) → AreBinsFrom 0 bins
      → length bins ≤ target
      → Apart (flat_map (λ n. bin_ranges shape n (windows n) (target / length bins)) bins)
  each_bin windows [] target rise most =
      shards_exclusive bytes s kind [] tt (λ shard few. tt) 0 (shards_of s) (small_shards s)
  each_bin windows (m ∷ bins) target rise most =
      let part : 1 ≤ target / length (m ∷ bins) =
      le-div 1 target (length (m ∷ bins)) (omega arith) (omega arith) in
      shards_exclusive bytes s kind
      (flat_map (λ n. bin_ranges shape n (windows n) (target / length (m ∷ bins))) (m ∷ bins))
      (flat_curved shape windows (target / length (m ∷ bins)) (m ∷ bins))
      (λ shard few. flat_exclusive laws s kind shape curve windows (target / length (m ∷ bins)) part
      shard few 0 (m ∷ bins) rise) 0 (shards_of s) (small_shards s)

  bins_by : (windows : ℕ → List Window) (bins : List ℕ) (target : ℕ) (b : Bool)
      → nat_lt target (length bins) ≡ b → AreBinsFrom 0 bins
      → Apart (if b then span_of_bins bins ∷ []
      else flat_map (λ n. bin_ranges shape n (windows n) (target / length bins)) bins)
  bins_by windows bins target true e rise = one_span bins
  bins_by windows bins target false e rise =
      each_bin windows bins target rise (ltb-false target (length bins) e)

  in_bins : (windows : ℕ → List Window) (bins : List ℕ) (target : ℕ) → AreBinsFrom 0 bins
      → Apart (ranges_in_bins shape windows bins target)
  unfolding ranges_in_bins
  in_bins windows bins target rise =
      bins_by windows bins target (nat_lt target (length bins)) refl rise

  pub all_space : (period : Period) (bits : ℕ) (boxes : List Box2) (intervals : List Interval)
      (target : ℕ) → Apart (space_ranges shape period bits boxes intervals target)
  all_space period bits [] intervals target =
      shards_exclusive bytes s kind [] tt (λ shard few. tt) 0 (shards_of s) (small_shards s)
  all_space period bits (b ∷ boxes) intervals target =
      in_bins (windows_in period bits (b ∷ boxes) intervals) (bins_of period intervals) target
      (bins_of_rise period intervals)
