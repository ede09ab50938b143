-- What is in a box and an interval has cells in a window of its bin, and its key is read.
use Rattle.std.proofs.Common.{◌≡◌, ℕ, ◌+◌, ◌-◌, ◌/◌, ◌^◌, ◌<◌, ◌≤◌, Bool, true, false, ◌&&◌, ◌||◌}
use Rattle.std.proofs.Common.{List, [], ◌∷◌, ◌++◌, length, map, filter, refl, sym, ap, ◌∙◌}
use Rattle.std.proofs.Common.{true≢false, inl, inr, Option, Some, None, arith, subst}
use Rattle.std.proofs.lemmas.Bool.{and_parts, and_from, or_left, or_right, le-leb, ltb-false}
use Rattle.std.proofs.lemmas.Int.{ints, clamps}
use Rattle.std.proofs.lemmas.Nat.{le-div}
use Rattle.std.proofs.Math.Nat.{div-mul-le_self}
use Rattle.std.specs.Prelude.{ℤ, pos, negsuc, ◌≤ℤ◌, ◌<ℤ◌, ◌-ℤ◌, leb, nat_le, nat_lt, ◌==◌}
use Rattle.std.specs.Prelude.{slice_index, unsigned_abs, if◌then◌else◌}
use Rattle.std.specs.List.{list_any, flat_map, range_with_len, AllByRecursion}
use Rattle.gm_base.proofs.Lists.{any_map}
use Rattle.gm_base.proofs.Numbers.{le_true, eq_true, le_from, le_to}
use Rattle.gm_calendar.specs.declared.period.Period.{Period}
use Rattle.gm_calendar.specs.declared.period.Period.TheVariants.{Day, Week, Month, Year}
use Rattle.gm_calendar.specs.declared.bin.Bin.{Bin}
use Rattle.gm_calendar.specs.Bin.{first_ms, last_ms, ms_since, IsBinOf}
use Rattle.gm_calendar.specs.Period.{last_of, unit_of, longest_of}
use Rattle.gm_geom.specs.declared.point.Point.{Point}
use Rattle.gm_geom.specs.declared.point.Box2.{Box2}
use Rattle.gm_runs.specs.Runs.{HasNumber}
use Rattle.gm_trees.specs.declared.window.Node3.{Node3}
use Rattle.gm_trees.specs.declared.window.Window.{Window}
use Rattle.gm_trees.specs.Tree.{Shape}
use Rattle.gm_trees.specs.Paths.{cell_of}
use Rattle.gm_split.specs.Explained.{explained_runs, stop_level}
use Rattle.gm_split.specs.Windows.{meets, overlaps}
use Rattle.gm_types.specs.declared.index.IndexKind.{IndexKind}
use Rattle.gm_types.specs.Specification.{Specification, shards_of}
use Rattle.gm_keys.specs.Cell.{longitude_cell, latitude_cell, time_cell, cells_at}
use Rattle.gm_keys.specs.Key.{prefix_of, bin_front, bin_code_front, shard_of}
use Rattle.gm_bounds.specs.declared.interval.Interval.{Interval}
use Rattle.gm_bounds.specs.declared.ranges.Range.{Range}
use Rattle.gm_bounds.specs.Interval.{is_in, has_begun, has_not_ended}
use Rattle.gm_table.specs.Sorted.{is_within}
use Rattle.gm_plan.specs.Bins.{not_before, not_after, start_in, end_in, meets_bin, is_met, bins_of}
use Rattle.gm_plan.specs.Bins.{offset_in}
use Rattle.gm_plan.specs.Covering.{IsCurve}
use Rattle.gm_plan.specs.Inside.{is_inside}
use Rattle.gm_plan.specs.KeyRanges.{bin_range, bin_ranges, ranges_in_bins, space_ranges}
use Rattle.gm_plan.specs.KeyRanges.{span_of_bins}
use Rattle.gm_plan.specs.Spans.{spans_in, span_behind, end_of}
use Rattle.gm_plan.specs.Windows.{window_in, windows_in}
use Rattle.gm_plan.proofs.InPlane.{Overlap, ShardLaw, shards_few, runs_narrow}
use Rattle.gm_plan.proofs.Members.{AreRising, any_kept, any_in_flat, stands, filter_rises}
use Rattle.gm_plan.proofs.Members.{filter_below, at_below, first_most, last_least, some_of}
use Rattle.gm_plan.proofs.Times.{start_least}
use Rattle.gm_plan.proofs.Rising.{Rises, longitude_rises, latitude_rises}
use Rattle.gm_plan.proofs.Within.{CodeLaws, AreNarrow, any_flat, any_range, within_is, bin_end}
use Rattle.gm_plan.proofs.Within.{bin_code_end}

-- ---- offsets rise
abs_rises : (m n : ℤ) → pos 0 ≤ℤ m → m ≤ℤ n → unsigned_abs m ≤ unsigned_abs n
abs_rises (pos m) (pos n) h k = omega (arith, ints)
abs_rises (pos m) (negsuc n) h k = absurd (omega (arith, ints))
abs_rises (negsuc m) n h k = absurd (omega (arith, ints))

offsets_rise : (period : Period) (number : ℕ) (a b : ℤ) → first_ms period number ≤ℤ a → a ≤ℤ b
    → offset_in period number a ≤ offset_in period number b
offsets_rise period number a b h k =
    quotients_rise (ms_since period number a) (ms_since period number b) (unit_of period)
    (some_unit period)
    (abs_rises (a -ℤ first_ms period number) (b -ℤ first_ms period number)
    (since (first_ms period number) a h) (both (first_ms period number) a b k))
  where
    some_unit : (period : Period) → 0 < unit_of period
    some_unit Day = omega arith
    some_unit Week = omega arith
    some_unit Month = omega arith
    some_unit Year = omega arith

    since : (f a : ℤ) → f ≤ℤ a → pos 0 ≤ℤ (a -ℤ f)
    since f a h = omega (arith, ints, h)

    both : (f a b : ℤ) → a ≤ℤ b → (a -ℤ f) ≤ℤ (b -ℤ f)
    both f a b h = omega (arith, ints, h)

    quotients_rise : (m n k : ℕ) → 0 < k → m ≤ n → m / k ≤ n / k
    quotients_rise m n k some less = let e = div-mul-le_self m k in
        le-div (m / k) n k some (omega arith)

started : (o : Option ℤ) (first at : ℤ) → has_begun o at ≡ true → first ≤ℤ at
    → not_before o first ≤ℤ at
started None first at h k = k
started (Some low) first at h k = let l = le_from low at h in omega (arith, ints, clamps, l, k)

ended : (o : Option ℤ) (last at : ℤ) → has_not_ended o at ≡ true → at ≤ℤ last
    → at ≤ℤ not_after o last
ended None last at h k = k
ended (Some high) last at h k = let l = le_from at high h in omega (arith, ints, clamps, l, k)

-- an instant of an interval and a bin
pub record IsMoment (period : Period) (number offset : ℕ) (i : Interval) : Type 0 where
  pub meets : meets_bin period number i ≡ true
  pub from : offset_in period number (start_in period number i) ≤ offset
  pub to : offset ≤ offset_in period number (end_in period number i)

before_next : (at next : ℤ) → at <ℤ next → at ≤ℤ (next -ℤ pos 1)
before_next at next h = omega (arith, ints, h)

pub moment : (period : Period) (at : ℤ) (bin : Bin) (i : Interval) → IsBinOf period at bin
    → is_in at i ≡ true → IsMoment period bin.number bin.offset i
moment period at bin i is h =
    let parts = and_parts (has_begun i.low at) (has_not_ended i.high at) h in
    let a = started i.low (first_ms period bin.number) at parts.0 is.started in
    let b = ended i.high (last_ms period bin.number) at parts.1
    (before_next at (first_ms period (bin.number + 1)) is.not_ended) in
    let first = start_least i.low (first_ms period bin.number) in
    record {
      meets = le_to _ _
          (between (start_in period bin.number i) at (end_in period bin.number i) a b);
      from = subst (λ n. offset_in period bin.number (start_in period bin.number i) ≤ n)
          (sym is.offset_is)
          (offsets_rise period bin.number (start_in period bin.number i) at first a);
      to = subst (λ n. n ≤ offset_in period bin.number (end_in period bin.number i))
          (sym is.offset_is)
          (offsets_rise period bin.number at (end_in period bin.number i) is.started b);
    }
  where
    between : (a b c : ℤ) → a ≤ℤ b → b ≤ℤ c → a ≤ℤ c
    between a b c p q = omega (arith, ints, p, q)

-- ---- windows
time_rises : Rises → (period : Period) (bits a b : ℕ) → a ≤ b
    → time_cell period bits a ≤ time_cell period bits b
time_rises rises period bits a b h = rises a b (longest_of period) bits h

overlap_in_space : Rises
    → (period : Period) (bits number offset : ℕ) (low high : Point) (b : Box2) (i : Interval)
    → Overlap low high b → IsMoment period number offset i
    → overlaps 3 (
      cell_of (cells_at period bits low offset),
      cell_of (cells_at period bits high offset),
    ) (window_in period bits number b i) ≡ true
overlap_in_space rises period bits number offset low high b i o m =
    let from = offset_in period number (start_in period number i) in
    let to = offset_in period number (end_in period number i) in
    and_from (leb (longitude_cell bits low.x) (longitude_cell bits b.high.x)
    && leb (longitude_cell bits b.low.x) (longitude_cell bits high.x)) _
    (and_from (leb (longitude_cell bits low.x) (longitude_cell bits b.high.x)) _
    (le-leb _ _ (longitude_rises rises bits low.x b.high.x o.left))
    (le-leb _ _ (longitude_rises rises bits b.low.x high.x o.right)))
    (and_from (leb (latitude_cell bits low.y) (latitude_cell bits b.high.y)
    && leb (latitude_cell bits b.low.y) (latitude_cell bits high.y)) _
    (and_from (leb (latitude_cell bits low.y) (latitude_cell bits b.high.y)) _
    (le-leb _ _ (latitude_rises rises bits low.y b.high.y o.below))
    (le-leb _ _ (latitude_rises rises bits b.low.y high.y o.above)))
    (and_from (leb (time_cell period bits offset) (time_cell period bits to)) _
    (le-leb _ _ (time_rises rises period bits offset to m.to))
    (le-leb _ _ (time_rises rises period bits from offset m.from))))

meets_any : (D : ℕ) (ws : List Window) (r : Node3 × Node3)
    → meets D ws r ≡ list_any (λ w. overlaps D r w) ws
meets_any D [] r = refl
meets_any D (w ∷ ws) r = ap (λ b. overlaps D r w || b) (meets_any D ws r)

pub meets_in_space : Rises
    → (period : Period) (bits : ℕ) (at : ℤ) (bin : Bin) (low high : Point) (test : Box2 → Bool)
    → ((b : Box2) → test b ≡ true → Overlap low high b) → IsBinOf period at bin
    → (boxes : List Box2) (intervals : List Interval) → list_any test boxes ≡ true
    → list_any (is_in at) intervals ≡ true
    → meets 3 (windows_in period bits boxes intervals bin.number) (
      cell_of (cells_at period bits low bin.offset),
      cell_of (cells_at period bits high bin.offset),
    ) ≡ true
meets_in_space rises period bits at bin low high test tells is boxes intervals h k =
    let reach : Node3 × Node3 = (
      cell_of (cells_at period bits low bin.offset),
      cell_of (cells_at period bits high bin.offset),
    ) in
    meets_any 3 (windows_in period bits boxes intervals bin.number) reach
    ∙ any_in_flat test (λ w. overlaps 3 reach w)
    (λ b. map (window_in period bits bin.number b)
    (filter (meets_bin period bin.number) intervals))
    (λ b t. any_kept (is_in at) (meets_bin period bin.number) (λ w. overlaps 3 reach w)
    (window_in period bits bin.number b)
    (λ i u. let m = moment period at bin i is u in (
      m.meets,
      overlap_in_space rises period bits bin.number bin.offset low high b i (tells b t)
          m,
    )) intervals k)
    boxes h

-- ---- keys in a bin
pub in_bin_inside : CodeLaws
    → (s : Specification) (kind : IndexKind) (shard number level code : ℕ) (id : List ℕ)
    (runs : List (ℕ × ℕ)) → shard < 256 → number < 2 ^ 16 → AreNarrow runs → HasNumber runs code
    → is_inside (bin_code_front (prefix_of s kind) shard number code ++ id)
    (spans_in (prefix_of s kind) (map (bin_range number level) runs) shard) ≡ true
in_bin_inside laws s kind shard number level code id [] few small narrow has = absurd has
in_bin_inside laws s kind shard number level code id (run ∷ runs) few small narrow (inl has) =
    or_left _ (is_inside (bin_code_front (prefix_of s kind) shard number code ++ id)
    (spans_in (prefix_of s kind) (map (bin_range number level) runs) shard))
    (within_is (bin_code_front (prefix_of s kind) shard number run.0)
    (bin_code_front (prefix_of s kind) shard number run.1)
    (bin_code_front (prefix_of s kind) shard number code ++ id)
    (bin_code_end s kind shard number run.1)
    ∙ laws.in_bin s kind shard shard number number run.0 run.1 code id few small small narrow.0.0
    narrow.0.1 (below has.1 narrow.0.1)
    ∙ and_from (shard == shard) ((number == number) && (nat_le run.0 code && nat_le code run.1))
    (eq_true shard)
    (and_from (number == number) (nat_le run.0 code && nat_le code run.1) (eq_true number)
    (and_from (nat_le run.0 code) (nat_le code run.1) (le_true run.0 code has.0)
    (le_true code run.1 has.1))))
  where
    below : {a b m : ℕ} → a ≤ b → b < m → a < m
    below h k = omega arith
in_bin_inside laws s kind shard number level code id (run ∷ runs) few small narrow (inr has) =
    or_right (is_within (bin_code_front (prefix_of s kind) shard number run.0)
    (end_of (bin_code_front (prefix_of s kind) shard number run.1))
    (bin_code_front (prefix_of s kind) shard number code ++ id)) _
    (in_bin_inside laws s kind shard number level code id runs few small narrow.1 has)

last_small : (period : Period) → last_of period + 1 ≤ 2 ^ 16
last_small Day = omega arith
last_small Week = omega arith
last_small Month = omega arith
last_small Year = omega arith

module _ (laws : CodeLaws) (shards : ShardLaw) (s : Specification) (kind : IndexKind)
    (shape : Shape) (curve : IsCurve 3 shape) (period : Period) (number code : ℕ)
    (id : List ℕ) where
  abbrev key : ℕ → List ℕ
  key shard = bin_code_front (prefix_of s kind) shard number code ++ id

  in_own_bin : (windows : ℕ → List Window) (part shard : ℕ) → shard < 256 → number < 2 ^ 16
      → 1 ≤ part → HasNumber (explained_runs 3 shape (windows number) part) code
      → is_inside (key shard)
      (spans_in (prefix_of s kind) (bin_ranges shape number (windows number) part) shard) ≡ true
  unfolding bin_ranges
  in_own_bin windows part shard few small some has =
      in_bin_inside laws s kind shard number (stop_level 3 shape (windows number) part) code id
      (explained_runs 3 shape (windows number) part) few small
      (runs_narrow 3 shape curve (windows number) part some) has

  in_flat : (windows : ℕ → List Window) (part shard : ℕ) (bins xs ys : List ℕ)
      → bins ≡ xs ++ (number ∷ ys) → shard < 256 → number < 2 ^ 16 → 1 ≤ part
      → HasNumber (explained_runs 3 shape (windows number) part) code
      → is_inside (key shard)
      (spans_in (prefix_of s kind) (flat_map (λ n. bin_ranges shape n (windows n) part) bins)
      shard) ≡ true
  in_flat windows part shard bins xs ys e few small some has =
      let Test : Range → Bool =
      λ r. is_within (span_behind (prefix_of s kind) shard r).0
      (span_behind (prefix_of s kind) shard r).1 (key shard) in
      any_map (λ span. is_within span.0 span.1 (key shard)) (span_behind (prefix_of s kind) shard)
      (flat_map (λ n. bin_ranges shape n (windows n) part) bins)
      ∙ subst (λ zs. list_any Test (flat_map (λ n. bin_ranges shape n (windows n) part) zs) ≡ true)
      (sym e)
      (any_flat Test (λ n. bin_ranges shape n (windows n) part) number xs ys
      (sym (any_map (λ span. is_within span.0 span.1 (key shard))
      (span_behind (prefix_of s kind) shard) (bin_ranges shape number (windows number) part))
      ∙ in_own_bin windows part shard few small some has))

  in_span : (bins : List ℕ) (shard : ℕ) → shard < 256 → number < 2 ^ 16
      → slice_index bins 0 < 2 ^ 16 → slice_index bins (length bins - 1) < 2 ^ 16
      → slice_index bins 0 ≤ number → number ≤ slice_index bins (length bins - 1)
      → is_inside (key shard) (spans_in (prefix_of s kind) (span_of_bins bins ∷ []) shard) ≡ true
  in_span bins shard few small first last low high =
      or_left _ false
      (within_is (bin_front (prefix_of s kind) shard (slice_index bins 0))
      (bin_front (prefix_of s kind) shard (slice_index bins (length bins - 1))) (key shard)
      (bin_end s kind shard (slice_index bins (length bins - 1)))
      ∙ laws.bins s kind shard shard (slice_index bins 0) (slice_index bins (length bins - 1))
      number code id few first last small
      ∙ and_from (shard == shard)
      (nat_le (slice_index bins 0) number && nat_le number (slice_index bins (length bins - 1)))
      (eq_true shard)
      (and_from (nat_le (slice_index bins 0) number)
      (nat_le number (slice_index bins (length bins - 1))) (le_true _ _ low)
      (le_true _ _ high)))

  by_number : (windows : ℕ → List Window) (bins xs ys : List ℕ) (target shard : ℕ) (b : Bool)
      → nat_lt target (length bins) ≡ b → bins ≡ xs ++ (number ∷ ys) → shard < 256 → number < 2 ^ 16
      → slice_index bins 0 < 2 ^ 16 → slice_index bins (length bins - 1) < 2 ^ 16
      → slice_index bins 0 ≤ number → number ≤ slice_index bins (length bins - 1)
      → ((part : ℕ) → 1 ≤ part → HasNumber (explained_runs 3 shape (windows number) part) code)
      → is_inside (key shard)
      (spans_in (prefix_of s kind)
      (if b then span_of_bins bins ∷ []
      else flat_map (λ n. bin_ranges shape n (windows n) (target / length bins)) bins)
      shard) ≡ true
  by_number windows bins xs ys target shard true e is few small first last low high has =
      in_span bins shard few small first last low high
  by_number windows bins xs ys target shard false e is few small first last low high has =
      let there : 1 ≤ length bins = subst (λ zs. 1 ≤ length zs) (sym is) (some_of number xs ys) in
      let most : length bins ≤ target = ltb-false target (length bins) e in
      let part : 1 ≤ target / length bins = le-div 1 target (length bins) there (omega arith) in
      in_flat windows (target / length bins) shard bins xs ys is few small part
      (has (target / length bins) part)

  among : (windows : ℕ → List Window) (target shard : ℕ) (test : ℕ → Bool) (top : ℕ) → shard < 256
      → number < top → top ≤ 2 ^ 16 → test number ≡ true
      → ((part : ℕ) → 1 ≤ part → HasNumber (explained_runs 3 shape (windows number) part) code)
      → is_inside (key shard)
      (spans_in (prefix_of s kind)
      (ranges_in_bins shape windows (filter test (range_with_len 0 top)) target) shard) ≡ true
  unfolding ranges_in_bins
  among windows target shard test top few less small met has =
      let bins : List ℕ = filter test (range_with_len 0 top) in
      let xs : List ℕ = filter test (range_with_len 0 number) in
      let ys : List ℕ = filter test (range_with_len (number + 1) (top - number - 1)) in
      let e : bins ≡ xs ++ (number ∷ ys) = stands test number top less met in
      let rising : AreRising 0 (xs ++ (number ∷ ys)) =
      subst (AreRising 0) e (filter_rises test 0 top) in
      let below : AllByRecursion (λ k. k < 2 ^ 16) bins =
      filter_below test (2 ^ 16) 0 top (omega arith) in
      by_number windows bins xs ys target shard (nat_lt target (length bins)) refl e few
      (omega arith)
      (at_below (2 ^ 16) bins 0 (omega arith) below)
      (at_below (2 ^ 16) bins (length bins - 1) (omega arith) below)
      (subst (λ zs. slice_index zs 0 ≤ number) (sym e) (first_most 0 number xs ys rising))
      (subst (λ zs. number ≤ slice_index zs (length zs - 1)) (sym e)
      (last_least 0 number xs ys rising))
      has

  in_bins : (windows : ℕ → List Window) (intervals : List Interval) (target shard : ℕ) → shard < 256
      → number ≤ last_of period → is_met period intervals number ≡ true
      → ((part : ℕ) → 1 ≤ part → HasNumber (explained_runs 3 shape (windows number) part) code)
      → is_inside (key shard)
      (spans_in (prefix_of s kind)
      (ranges_in_bins shape windows (bins_of period intervals) target) shard) ≡ true
  unfolding bins_of
  in_bins windows intervals target shard few within met has =
      among windows target shard (is_met period intervals) (last_of period + 1) few
      (number_in number (last_of period) within) (last_small period) met has
    where
      number_in : (a b : ℕ) → a ≤ b → a < b + 1
      number_in a b h = omega arith

  pub space_inside : (bits : ℕ) (boxes : List Box2) (intervals : List Interval) (target : ℕ)
      (test : Box2 → Bool) → list_any test boxes ≡ true → number ≤ last_of period
      → is_met period intervals number ≡ true
      → ((part : ℕ) → 1 ≤ part
      → HasNumber (explained_runs 3 shape (windows_in period bits boxes intervals number) part)
      code)
      → is_inside (key (shard_of s id))
      (flat_map (spans_in (prefix_of s kind)
      (space_ranges shape period bits boxes intervals target))
      (range_with_len 0 (shards_of s))) ≡ true
  space_inside bits [] intervals target test some within met has = absurd (true≢false (sym some))
  space_inside bits (b ∷ boxes) intervals target test some within met has =
      let few = shards_few s in
      let less = shards.few s id few.0 in
      any_range _ (spans_in (prefix_of s kind)
      (ranges_in_bins shape (windows_in period bits (b ∷ boxes) intervals)
      (bins_of period intervals) target)) 0 (shards_of s) (shard_of s id) less
      (subst (λ shard. is_inside (key (shard_of s id))
      (spans_in (prefix_of s kind)
      (ranges_in_bins shape (windows_in period bits (b ∷ boxes) intervals)
      (bins_of period intervals) target) shard) ≡ true) (zero_plus (shard_of s id))
      (in_bins (windows_in period bits (b ∷ boxes) intervals) intervals target (shard_of s id)
      (small _ _ less few.1) within met has))
    where
      zero_plus : (n : ℕ) → n ≡ 0 + n
      zero_plus n = omega arith

      small : (a b : ℕ) → a < b → b ≤ 127 → a < 256
      small a b h k = omega arith
