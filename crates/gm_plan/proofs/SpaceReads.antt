-- The indexes over space and time lose no feature of which a filter is true.
use Rattle.std.proofs.Common.{◌≡◌, ℕ, ◌≤◌, true, ◌&&◌, List, [], ◌∷◌, ◌++◌, refl, sym, ap, ◌∙◌}
use Rattle.std.proofs.Common.{true≢false, ◌⊎◌, inl, inr, Option, Some, None, subst}
use Rattle.std.proofs.lemmas.Bool.{and_parts, or_left, or_right, or_cases}
use Rattle.std.specs.Prelude.{ℤ, option_map, option_and_then, is_some, MatchOption}
use Rattle.std.specs.List.{list_any, flat_map, range_with_len}
use Rattle.gm_calendar.specs.declared.period.Period.{Period}
use Rattle.gm_calendar.specs.declared.period.Period.TheVariants.{Day, Week, Month, Year}
use Rattle.gm_calendar.specs.declared.bin.Bin.{Bin}
use Rattle.gm_calendar.specs.Bin.{bin_at, HasNoBin, IsBinOf}
use Rattle.gm_geom.specs.declared.point.Point.{Point}
use Rattle.gm_geom.specs.declared.point.Box2.{Box2}
use Rattle.gm_types.specs.declared.index.IndexKind.TheVariants.{Z3, Xz3}
use Rattle.gm_types.specs.declared.kind.GeoKind.TheVariants as shape
use Rattle.gm_types.specs.declared.kind.GeoKind.{GeoKind}
use Rattle.gm_types.specs.declared.kind.Kind.TheVariants.{Geo}
use Rattle.gm_types.specs.FeatureType.{HoldsTogether}
use Rattle.gm_types.specs.Index.{has_index, is_other_shape}
use Rattle.gm_types.specs.Specification.{Specification, default_shape_of, default_date_of}
use Rattle.gm_types.specs.Specification.{period_of, shards_of, z3_bits_of, precision_of}
use Rattle.gm_feature.specs.declared.feature.Feature.{Feature}
use Rattle.gm_feature.specs.declared.value.Value.{Value}
use Rattle.gm_feature.specs.declared.value.Value.TheVariants as value
use Rattle.gm_feature.specs.Feature.{Fits, value_at, has_time_index}
use Rattle.gm_filter.specs.Suitability.{Suits}
use Rattle.gm_filter.specs.Tree.{Tree}
use Rattle.gm_filter.specs.Truth.{is_true}
use Rattle.gm_keys.specs.Cell.{z3_code, xz3_code, cells_at}
use Rattle.gm_keys.specs.Key.{prefix_of, key_of, front_of, bin_code_front, shard_of}
use Rattle.gm_keys.specs.Whereabouts.{point_in, box_in, bin_in, instant_of}
use Rattle.gm_trees.specs.Z.{z_shape}
use Rattle.gm_trees.specs.Xz.{xz_shape}
use Rattle.gm_bounds.specs.declared.bound.Bound.{Bound}
use Rattle.gm_bounds.specs.declared.bound.Bound.TheVariants.{World, Listed}
use Rattle.gm_bounds.specs.declared.interval.Interval.{Interval}
use Rattle.gm_bounds.specs.Applicability.{is_listed, are_bounded}
use Rattle.gm_bounds.specs.Space.{boxes_of}
use Rattle.gm_bounds.specs.ClosedBox.{is_in_box, is_geometry_in}
use Rattle.gm_bounds.specs.Found.{IsFound}
use Rattle.gm_bounds.specs.Interval.{is_in, is_date_in}
use Rattle.gm_bounds.specs.Time.{intervals_of}
use Rattle.gm_plan.specs.Bins.{meets_bin, is_met}
use Rattle.gm_plan.specs.Covering.{CoversPoints, CoversObjects}
use Rattle.gm_plan.specs.Inside.{LosesNone, is_inside}
use Rattle.gm_plan.specs.KeyRanges.{list_of, space_ranges}
use Rattle.gm_plan.specs.Spans.{spans_in}
use Rattle.gm_plan.specs.Windows.{windows_in}
use Rattle.gm_plan.proofs.Found.{never_any, found_in_list, place_of_shape, point_found, has_point}
use Rattle.gm_plan.proofs.Found.{FoundExtent, extent_found, has_box}
use Rattle.gm_plan.proofs.InPlane.{point_overlap}
use Rattle.gm_plan.proofs.InSpace.{moment, meets_in_space, space_inside}
use Rattle.gm_plan.proofs.PlaneReads.{PlaneLaws}
use Rattle.gm_plan.proofs.Rising.{are_cells_at}

-- what the crates below say besides
pub record TimeLaws : Type 0 where
  pub intervals : (s : Specification) (t : Tree) (f : Feature) (d : ℕ) → HoldsTogether s → Suits s t
      → Fits s f → is_true f t ≡ true
      → default_date_of s ≡ Some d → IsFound (is_date_in (value_at f d)) (intervals_of s t)
  pub dates : (t : Specification) (f : Feature) (n : ℕ) (at : ℤ) → Fits t f
      → has_time_index t ≡ true → default_date_of t ≡ Some n
      → value_at f n ≡ value.Date at → is_some (bin_at (period_of t) at) ≡ true
  pub bins : (period : Period) (at : ℤ)
      → MatchOption (bin_at period at) (HasNoBin period at) (IsBinOf period at)

-- ---- the date
some_there : {X : Type 0} (o : Option X) → is_some o ≡ true → (x : X) × (o ≡ Some x)
some_there None h = absurd (true≢false (sym h))
some_there (Some x) h = (x, refl)

listed_where : (b : Bound Interval) → are_bounded b ≡ true → is_listed b ≡ true
listed_where World h = absurd (true≢false (sym h))
listed_where (Listed xs) h = refl

pub record FoundDate (v : Value) (intervals : List Interval) : Type 0 where
  pub at : ℤ
  pub is : v ≡ value.Date at
  pub found : list_any (is_in at) intervals ≡ true

date_found : (v : Value) (intervals : List Interval) → list_any (is_date_in v) intervals ≡ true
    → FoundDate v intervals
date_found value.Null intervals h =
    absurd (never_any (is_date_in value.Null) intervals (λ i. refl) h)
date_found (value.Text t) intervals h =
    absurd (never_any (is_date_in (value.Text t)) intervals (λ i. refl) h)
date_found (value.Integer n) intervals h =
    absurd (never_any (is_date_in (value.Integer n)) intervals (λ i. refl) h)
date_found (value.Long n) intervals h =
    absurd (never_any (is_date_in (value.Long n)) intervals (λ i. refl) h)
date_found (value.Boolean b) intervals h =
    absurd (never_any (is_date_in (value.Boolean b)) intervals (λ i. refl) h)
date_found (value.Date at) intervals h = record { at = at; is = refl; found = h }
date_found (value.Geo g) intervals h =
    absurd (never_any (is_date_in (value.Geo g)) intervals (λ i. refl) h)

has_bin : (s : Specification) (f : Feature) (d : ℕ) (at : ℤ) (bin : Bin)
    → default_date_of s ≡ Some d → value_at f d ≡ value.Date at → bin_at (period_of s) at ≡ Some bin
    → bin_in s f ≡ Some bin
has_bin s f d at bin e h k =
    ap (λ o. option_and_then (bin_at (period_of s))
    (option_and_then (λ n. instant_of (value_at f n)) o)) e
    ∙ ap (λ v. option_and_then (bin_at (period_of s)) (instant_of v)) h ∙ k

-- the moment of a feature: its date, and the bin of that
pub record HasMoment (s : Specification) (t : Tree) (f : Feature) : Type 0 where
  pub at : ℤ
  pub bin : Bin
  pub bin_is : bin_in s f ≡ Some bin
  pub tells : IsBinOf (period_of s) at bin
  pub found : list_any (is_in at) (list_of (intervals_of s t)) ≡ true

any_met : (period : Period) (at : ℤ) (bin : Bin) (intervals : List Interval) → IsBinOf period at bin
    → list_any (is_in at) intervals ≡ true → is_met period intervals bin.number ≡ true
any_met period at bin [] is h = h
any_met period at bin (i ∷ intervals) is h =
    by (or_cases (is_in at i) (list_any (is_in at) intervals) h)
    (λ there. any_met period at bin intervals is there)
  where
    by : (is_in at i ≡ true) ⊎ (list_any (is_in at) intervals ≡ true)
        → (list_any (is_in at) intervals ≡ true → is_met period intervals bin.number ≡ true)
        → is_met period (i ∷ intervals) bin.number ≡ true
    by (inl here) rec =
        or_left (meets_bin period bin.number i) (is_met period intervals bin.number)
        (moment period at bin i is here).meets
    by (inr there) rec =
        or_right (meets_bin period bin.number i) (is_met period intervals bin.number) (rec there)

module _ (laws : PlaneLaws) (times : TimeLaws) where
  has_moment : (s : Specification) (t : Tree) (f : Feature) → HoldsTogether s → Suits s t → Fits s f
      → is_true f t ≡ true → has_time_index s ≡ true
      → is_some (default_date_of s) ≡ true → are_bounded (intervals_of s t) ≡ true → HasMoment s t f
  has_moment s t f holds suits fits is timed dated bounded =
      let place = some_there (default_date_of s) dated in
      let found = date_found (value_at f place.0) (list_of (intervals_of s t))
      (found_in_list (is_date_in (value_at f place.0)) (intervals_of s t)
      (listed_where (intervals_of s t) bounded)
      (times.intervals s t f place.0 holds suits fits is place.1)) in
      let bin = some_there (bin_at (period_of s) found.at)
      (times.dates s f place.0 found.at fits timed place.1 found.is) in
      record {
        at = found.at;
        bin = bin.0;
        bin_is = has_bin s f place.0 found.at bin.0 place.1 found.is bin.1;
        tells = subst (λ o. MatchOption o (HasNoBin (period_of s) found.at)
            (IsBinOf (period_of s) found.at)) bin.1 (times.bins (period_of s) found.at);
        found = found.found;
      }

  z3_key : (s : Specification) (f : Feature) (p : Point) (bin : Bin) → point_in s f ≡ Some p
      → bin_in s f ≡ Some bin
      → key_of s Z3 f
      ≡ Some (bin_code_front (prefix_of s Z3) (shard_of s f.id) bin.number
      (z3_code (period_of s) (z3_bits_of s) p bin.offset) ++ f.id)
  unfolding front_of
  z3_key s f p bin h k =
      ap (λ o. option_map (λ front. front ++ f.id)
      (option_and_then
      (λ point. option_map
      (λ b. bin_code_front (prefix_of s Z3) (shard_of s f.id) b.number
      (z3_code (period_of s) (z3_bits_of s) point b.offset)) (bin_in s f)) o)) h
      ∙ ap (λ o. option_map (λ front. front ++ f.id)
      (option_map (λ b. bin_code_front (prefix_of s Z3) (shard_of s f.id) b.number
      (z3_code (period_of s) (z3_bits_of s) p b.offset)) o)) k

  z3_inside : (s : Specification) (t : Tree) (target : ℕ) (f : Feature) (boxes : List Box2)
      (p : Point) (m : HasMoment s t f) → CoversPoints 3 (z3_bits_of s) → 1 ≤ target
      → list_any (is_in_box p) boxes ≡ true
      → is_inside (bin_code_front (prefix_of s Z3) (shard_of s f.id) m.bin.number
      (z3_code (period_of s) (z3_bits_of s) p m.bin.offset) ++ f.id)
      (flat_map (spans_in (prefix_of s Z3)
      (space_ranges (z_shape 3 (z3_bits_of s)) (period_of s) (z3_bits_of s) boxes
      (list_of (intervals_of s t)) target)) (range_with_len 0 (shards_of s))) ≡ true
  unfolding z3_code
  z3_inside s t target f boxes p m covers some h =
      space_inside laws.codes laws.shards s Z3 (z_shape 3 (z3_bits_of s)) covers.curve (period_of s)
      m.bin.number (z3_code (period_of s) (z3_bits_of s) p m.bin.offset) f.id
      (z3_bits_of s) boxes (list_of (intervals_of s t)) target (is_in_box p) h m.tells.numbered
      (any_met (period_of s) m.at m.bin (list_of (intervals_of s t)) m.tells m.found)
      (λ part more. covers.covered
      (windows_in (period_of s) (z3_bits_of s) boxes (list_of (intervals_of s t)) m.bin.number)
      part (cells_at (period_of s) (z3_bits_of s) p m.bin.offset) more
      (are_cells_at (period_of s) (z3_bits_of s) p m.bin.offset)
      (meets_in_space laws.rises (period_of s) (z3_bits_of s) m.at m.bin p p (is_in_box p)
      (point_overlap p) m.tells boxes (list_of (intervals_of s t)) h m.found))

  pub z3_read : ((s : Specification) → CoversPoints 3 (z3_bits_of s)) → LosesNone Z3
  z3_read covers s t target f holds suits applies some fits is =
      let parts = and_parts (has_index s Z3)
      (is_listed (boxes_of s t) && are_bounded (intervals_of s t)) applies in
      let both = and_parts (is_listed (boxes_of s t)) (are_bounded (intervals_of s t)) parts.1 in
      let shaped = (holds.z3 parts.0).0 in
      let place = place_of_shape s shape.Point shaped in
      let at = holds.geometry place.0 place.1 in
      let found = point_found (value_at f place.0) (list_of (boxes_of s t))
      (laws.values s f place.0 (Geo shape.Point) fits (at.kind ∙ ap (option_map Geo) shaped))
      (found_in_list (is_geometry_in (value_at f place.0)) (boxes_of s t) both.0
      (laws.boxes s t f place.0 suits fits is place.1)) in
      let m = has_moment s t f holds suits fits is
      (or_left (has_index s Z3) (has_index s Xz3) parts.0) (holds.z3 parts.0).1 both.1 in
      record {
        key = bin_code_front (prefix_of s Z3) (shard_of s f.id) m.bin.number
            (z3_code (period_of s) (z3_bits_of s) found.point m.bin.offset) ++ f.id;
        has = z3_key s f found.point m.bin
            (has_point s f place.0 found.point place.1 found.is) m.bin_is;
        inside = z3_inside s t target f (list_of (boxes_of s t)) found.point m (covers s)
            some found.found;
      }

  xz3_key : (s : Specification) (f : Feature) (b : Box2) (bin : Bin) → box_in s f ≡ Some b
      → bin_in s f ≡ Some bin
      → key_of s Xz3 f
      ≡ Some (bin_code_front (prefix_of s Xz3) (shard_of s f.id) bin.number
      (xz3_code (period_of s) (precision_of s) b bin.offset) ++ f.id)
  unfolding front_of
  xz3_key s f b bin h k =
      ap (λ o. option_map (λ front. front ++ f.id)
      (option_and_then
      (λ box. option_map
      (λ n. bin_code_front (prefix_of s Xz3) (shard_of s f.id) n.number
      (xz3_code (period_of s) (precision_of s) box n.offset)) (bin_in s f)) o)) h
      ∙ ap (λ o. option_map (λ front. front ++ f.id)
      (option_map (λ n. bin_code_front (prefix_of s Xz3) (shard_of s f.id) n.number
      (xz3_code (period_of s) (precision_of s) b n.offset)) o)) k

  xz3_inside : (s : Specification) (t : Tree) (target : ℕ) (f : Feature) (boxes : List Box2)
      (v : Value) (found : FoundExtent v boxes) (m : HasMoment s t f)
      → CoversObjects 3 (precision_of s) → 1 ≤ target
      → is_inside (bin_code_front (prefix_of s Xz3) (shard_of s f.id) m.bin.number
      (xz3_code (period_of s) (precision_of s) found.extent m.bin.offset) ++ f.id)
      (flat_map (spans_in (prefix_of s Xz3)
      (space_ranges (xz_shape 3 (precision_of s)) (period_of s) (precision_of s) boxes
      (list_of (intervals_of s t)) target)) (range_with_len 0 (shards_of s))) ≡ true
  unfolding xz3_code
  xz3_inside s t target f boxes v found m covers some =
      space_inside laws.codes laws.shards s Xz3 (xz_shape 3 (precision_of s)) covers.curve
      (period_of s) m.bin.number
      (xz3_code (period_of s) (precision_of s) found.extent m.bin.offset) f.id
      (precision_of s) boxes (list_of (intervals_of s t)) target found.test found.found
      m.tells.numbered
      (any_met (period_of s) m.at m.bin (list_of (intervals_of s t)) m.tells m.found)
      (λ part more. covers.covered
      (windows_in (period_of s) (precision_of s) boxes (list_of (intervals_of s t))
      m.bin.number) part
      (cells_at (period_of s) (precision_of s) found.extent.low m.bin.offset)
      (cells_at (period_of s) (precision_of s) found.extent.high m.bin.offset) more
      (are_cells_at (period_of s) (precision_of s) found.extent.low m.bin.offset)
      (are_cells_at (period_of s) (precision_of s) found.extent.high m.bin.offset)
      (meets_in_space laws.rises (period_of s) (precision_of s) m.at m.bin found.extent.low
      found.extent.high found.test found.tells m.tells boxes (list_of (intervals_of s t))
      found.found m.found))

  pub xz3_read : ((s : Specification) → CoversObjects 3 (precision_of s)) → LosesNone Xz3
  xz3_read covers s t target f holds suits applies some fits is =
      let parts = and_parts (has_index s Xz3)
      (is_listed (boxes_of s t) && are_bounded (intervals_of s t)) applies in
      let both = and_parts (is_listed (boxes_of s t)) (are_bounded (intervals_of s t)) parts.1 in
      let shaped = other_shape (default_shape_of s) (holds.xz3 parts.0).0 in
      let place = place_of_shape s shaped.0 shaped.1 in
      let found = extent_found (value_at f place.0) (list_of (boxes_of s t))
      (found_in_list (is_geometry_in (value_at f place.0)) (boxes_of s t) both.0
      (laws.boxes s t f place.0 suits fits is place.1)) in
      let m = has_moment s t f holds suits fits is
      (or_right (has_index s Z3) (has_index s Xz3) parts.0) (holds.xz3 parts.0).1 both.1 in
      record {
        key = bin_code_front (prefix_of s Xz3) (shard_of s f.id) m.bin.number
            (xz3_code (period_of s) (precision_of s) found.extent m.bin.offset) ++ f.id;
        has = xz3_key s f found.extent m.bin
            (has_box s f place.0 found.geometry found.extent place.1 found.is found.extent_is)
            m.bin_is;
        inside = xz3_inside s t target f (list_of (boxes_of s t)) (value_at f place.0) found m
            (covers s) some;
      }
    where
      other_shape : (o : Option GeoKind) → is_other_shape o ≡ true → (g : GeoKind) × (o ≡ Some g)
      other_shape None h = absurd (true≢false (sym h))
      other_shape (Some g) h = (g, refl)

pub by_period : (P : Period → Type 0) → P Day → P Week → P Month → P Year
    → (period : Period) → P period
by_period P day week month year Day = day
by_period P day week month year Week = week
by_period P day week month year Month = month
by_period P day week month year Year = year
