-- A geometry of which a filter is true is in one of its boxes.
use Rattle.std.proofs.Common.{◌≡◌, ℕ, Bool, true, false, ◌&&◌, ◌||◌, List, [], ◌∷◌, refl, sym, ap}
use Rattle.std.proofs.Common.{◌∙◌, true≢false, Option, Some, None, arith, subst}
use Rattle.std.proofs.lemmas.Bool.{and_parts, and_from}
use Rattle.std.proofs.lemmas.Int.{ints, clamps}
use Rattle.std.specs.Prelude.{int_le, int_lt, ◌≤ℤ◌, option_and_then}
use Rattle.gm_base.proofs.Numbers.{le_from, le_to}
use Rattle.gm_base.proofs.Options.{none_is}
use Rattle.gm_geom.specs.declared.point.Point.{Point}
use Rattle.gm_geom.specs.declared.point.Box2.{Box2}
use Rattle.gm_geom.specs.declared.geometry.Geometry.{Geometry}
use Rattle.gm_geom.specs.declared.geometry.Geometry.TheVariants as geo
use Rattle.gm_geom.specs.Geometry.{points_of}
use Rattle.gm_geom.specs.Validity.{fault_of, is_in_world}
use Rattle.gm_geom.specs.Extent.{HoldsAll, IsLeastBox, extent_of}
use Rattle.gm_shapes.specs.Segment.{do_overlap, reaches}
use Rattle.gm_shapes.specs.Meeting.{do_intersect, box_area}
use Rattle.gm_shapes.specs.Meeting as meeting
use Rattle.gm_types.specs.declared.kind.Kind.{Kind}
use Rattle.gm_types.specs.declared.kind.Kind.TheVariants as kind
use Rattle.gm_types.specs.declared.kind.GeoKind.TheVariants as shape
use Rattle.gm_types.specs.Kind.{is_geometry, shape_of}
use Rattle.gm_types.specs.Index.{is_point_shape}
use Rattle.gm_types.specs.Specification.{Specification, kind_at, default_geometry_of}
use Rattle.gm_types.specs.Specification.{default_shape_of}
use Rattle.gm_feature.specs.declared.feature.Feature.{Feature}
use Rattle.gm_feature.specs.declared.value.Value.{Value}
use Rattle.gm_feature.specs.declared.value.Value.TheVariants as value
use Rattle.gm_feature.specs.Feature.{Fits, value_at}
use Rattle.gm_feature.specs.Value.{value_fits, is_of_kind}
use Rattle.gm_filter.specs.Suitability.{Suits, passes_kind, is_box, is_kept, has_area}
use Rattle.gm_filter.specs.Suitability.{is_point_kind}
use Rattle.gm_filter.specs.Tree.{Tree, bbox, intersects, within}
use Rattle.gm_filter.specs.Trial.{IsKeptValue}
use Rattle.gm_filter.specs.Truth.{is_true, meets, is_within}
use Rattle.gm_bounds.specs.declared.bound.Bound.{Bound}
use Rattle.gm_bounds.specs.Space.{box_rules, box_test, box_of, box_of_extent, boxes_of, boxes_at}
use Rattle.gm_bounds.specs.ClosedBox.{met, joined, is_void, is_in_box, is_found_in, is_geometry_in}
use Rattle.gm_bounds.specs.ClosedBox.{extent_overlaps}
use Rattle.gm_bounds.specs.Found.{IsFound}
use Rattle.gm_bounds.specs.Lists.{single}
use Rattle.gm_bounds.proofs.Sound.{Widens, Narrows, AreFull, IsSoundFor, meeting_finds}
use Rattle.gm_bounds.proofs.Sound.{capped_finds, single_finds, on_finds, found}

-- what the crates below say of extents, of meeting, and of the values of a feature that fits
pub record SpaceLaws : Type 0 where
  pub extent : (g : Geometry) → fault_of g ≡ None
      → (e : Box2) × (extent_of (points_of g) ≡ Some e)
  pub least : (points : List Point) (e : Box2) → extent_of points ≡ Some e → IsLeastBox e points
  pub overlap : (one two : Geometry) (b c : Box2) → fault_of one ≡ None → fault_of two ≡ None
      → HoldsAll b (points_of one) → HoldsAll c (points_of two) → do_intersect one two ≡ true
      → do_overlap b c ≡ true
  pub overlap_box : (geometry : Geometry) (b box : Box2) → fault_of geometry ≡ None
      → HoldsAll b (points_of geometry) → box.low.x ≤ℤ box.high.x → box.low.y ≤ℤ box.high.y
      → do_intersect geometry (box_area box) ≡ true → do_overlap b box ≡ true
  pub inside : (p : Point) (area : Geometry) → meeting.is_within p area ≡ true
      → do_intersect (geo.Point p) area ≡ true
  pub values : (t : Specification) (f : Feature) (n : ℕ) (k : Kind) → Fits t f
      → kind_at t n ≡ Some k → value_fits k (value_at f n) ≡ true

-- ---- boxes

in_parts : (p : Point) (b : Box2) → is_in_box p b ≡ true
    → (b.low.x ≤ℤ p.x) × (p.x ≤ℤ b.high.x) × (b.low.y ≤ℤ p.y) × (p.y ≤ℤ b.high.y)
in_parts p b h =
    let halves = and_parts (int_le b.low.x p.x && int_le p.x b.high.x)
    (int_le b.low.y p.y && int_le p.y b.high.y) h in
    let across = and_parts (int_le b.low.x p.x) (int_le p.x b.high.x) halves.0 in
    let along = and_parts (int_le b.low.y p.y) (int_le p.y b.high.y) halves.1 in
    (le_from _ _ across.0, le_from _ _ across.1, le_from _ _ along.0, le_from _ _ along.1)

in_from : (p : Point) (b : Box2) → b.low.x ≤ℤ p.x → p.x ≤ℤ b.high.x → b.low.y ≤ℤ p.y
    → p.y ≤ℤ b.high.y → is_in_box p b ≡ true
in_from p b left right below above =
    and_from (int_le b.low.x p.x && int_le p.x b.high.x) _
    (and_from (int_le b.low.x p.x) _ (le_to _ _ left) (le_to _ _ right))
    (and_from (int_le b.low.y p.y) _ (le_to _ _ below) (le_to _ _ above))

-- two boxes overlap
pub record Overlap (b c : Box2) : Type 0 where
  pub left : b.low.x ≤ℤ c.high.x
  pub below : b.low.y ≤ℤ c.high.y
  pub right : c.low.x ≤ℤ b.high.x
  pub above : c.low.y ≤ℤ b.high.y

overlap_parts : (b c : Box2) → do_overlap b c ≡ true → Overlap b c
overlap_parts b c h =
    let halves = and_parts (reaches b c) (reaches c b) h in
    let one = and_parts (int_le b.low.x c.high.x) (int_le b.low.y c.high.y) halves.0 in
    let two = and_parts (int_le c.low.x b.high.x) (int_le c.low.y b.high.y) halves.1 in
    record {
      left = le_from _ _ one.0;
      below = le_from _ _ one.1;
      right = le_from _ _ two.0;
      above = le_from _ _ two.1;
    }

overlap_from : (b c : Box2) → Overlap b c → do_overlap b c ≡ true
overlap_from b c h =
    and_from (reaches b c) (reaches c b)
    (and_from (int_le b.low.x c.high.x) _ (le_to _ _ h.left) (le_to _ _ h.below))
    (and_from (int_le c.low.x b.high.x) _ (le_to _ _ h.right) (le_to _ _ h.above))

-- ---- what is found in a box is found in one that holds it

wider_left : (b c : Box2) → Overlap b c → (d : Box2) → Overlap b (joined c d)
wider_left b c h d = record {
  left = omega (arith, ints, clamps, h.left);
  below = omega (arith, ints, clamps, h.below);
  right = omega (arith, ints, clamps, h.right);
  above = omega (arith, ints, clamps, h.above);
}

wider_right : (b d : Box2) → Overlap b d → (c : Box2) → Overlap b (joined c d)
wider_right b d h c = record {
  left = omega (arith, ints, clamps, h.left);
  below = omega (arith, ints, clamps, h.below);
  right = omega (arith, ints, clamps, h.right);
  above = omega (arith, ints, clamps, h.above);
}

extent_left : (o : Option Box2) (c d : Box2) → extent_overlaps o c ≡ true
    → extent_overlaps o (joined c d) ≡ true
extent_left None c d h = h
extent_left (Some b) c d h = overlap_from b (joined c d) (wider_left b c (overlap_parts b c h) d)

extent_right : (o : Option Box2) (c d : Box2) → extent_overlaps o d ≡ true
    → extent_overlaps o (joined c d) ≡ true
extent_right None c d h = h
extent_right (Some b) c d h = overlap_from b (joined c d) (wider_right b d (overlap_parts b d h) c)

point_left : (p : Point) (c d : Box2) → is_in_box p c ≡ true → is_in_box p (joined c d) ≡ true
point_left p c d h =
    let at = in_parts p c h in
    in_from p (joined c d) (omega (arith, ints, clamps, at.0)) (omega (arith, ints, clamps, at.1))
    (omega (arith, ints, clamps, at.2)) (omega (arith, ints, clamps, at.3))

point_right : (p : Point) (c d : Box2) → is_in_box p d ≡ true → is_in_box p (joined c d) ≡ true
point_right p c d h =
    let at = in_parts p d h in
    in_from p (joined c d) (omega (arith, ints, clamps, at.0)) (omega (arith, ints, clamps, at.1))
    (omega (arith, ints, clamps, at.2)) (omega (arith, ints, clamps, at.3))

point_both : (p : Point) (c d : Box2) → is_in_box p c ≡ true → is_in_box p d ≡ true
    → is_in_box p (met c d) ≡ true
point_both p c d h g =
    let at = in_parts p c h in
    let too = in_parts p d g in
    in_from p (met c d) (omega (arith, ints, clamps, at.0, too.0))
    (omega (arith, ints, clamps, at.1, too.1)) (omega (arith, ints, clamps, at.2, too.2))
    (omega (arith, ints, clamps, at.3, too.3))

geometry_left : (g : Geometry) (c d : Box2) → is_found_in g c ≡ true
    → is_found_in g (joined c d) ≡ true
geometry_left (geo.Point p) c d h = point_left p c d h
geometry_left (geo.Line points) c d h = extent_left _ c d h
geometry_left (geo.Area rings) c d h = extent_left _ c d h
geometry_left (geo.ManyPoints points) c d h = extent_left _ c d h
geometry_left (geo.ManyLines lines) c d h = extent_left _ c d h
geometry_left (geo.ManyAreas areas) c d h = extent_left _ c d h

geometry_right : (g : Geometry) (c d : Box2) → is_found_in g d ≡ true
    → is_found_in g (joined c d) ≡ true
geometry_right (geo.Point p) c d h = point_right p c d h
geometry_right (geo.Line points) c d h = extent_right _ c d h
geometry_right (geo.Area rings) c d h = extent_right _ c d h
geometry_right (geo.ManyPoints points) c d h = extent_right _ c d h
geometry_right (geo.ManyLines lines) c d h = extent_right _ c d h
geometry_right (geo.ManyAreas areas) c d h = extent_right _ c d h

value_left : (v : Value) (c d : Box2) → is_geometry_in v c ≡ true
    → is_geometry_in v (joined c d) ≡ true
value_left (value.Geo g) c d h = geometry_left g c d h
value_left _ c d h = h

value_right : (v : Value) (c d : Box2) → is_geometry_in v d ≡ true
    → is_geometry_in v (joined c d) ≡ true
value_right (value.Geo g) c d h = geometry_right g c d h
value_right _ c d h = h

widens : (v : Value) → Widens (is_geometry_in v) joined
widens v = record { left = value_left v; right = value_right v }

-- ---- what a test finds

not_void : (b : Box2) → b.low.x ≤ℤ b.high.x → b.low.y ≤ℤ b.high.y → is_void b ≡ false
not_void b across along =
    or_false (int_lt b.high.x b.low.x) (int_lt b.high.y b.low.y) (sym (omega (arith, ints, across)))
    (sym (omega (arith, ints, along)))
  where
    or_false : (x y : Bool) → x ≡ false → y ≡ false → (x || y) ≡ false
    or_false true y p q = p
    or_false false y p q = q

point_found : (p : Point) (e b : Box2) → extent_of (p ∷ []) ≡ Some e → do_overlap e b ≡ true
    → is_in_box p b ≡ true
point_found p e b is h =
    let same : e ≡ record { low = p; high = p } = cc in
    let at : Overlap (record { low = p; high = p }) b =
    overlap_parts _ b (subst (λ c. do_overlap c b ≡ true) same h) in
    in_from p b at.right at.left at.above at.below

extent_found : (points : List Point) (e b : Box2) → extent_of points ≡ Some e
    → do_overlap e b ≡ true → extent_overlaps (extent_of points) b ≡ true
extent_found points e b is h = ap (λ o. extent_overlaps o b) is ∙ h

geometry_found : (g : Geometry) (e b : Box2) → extent_of (points_of g) ≡ Some e
    → do_overlap e b ≡ true → is_found_in g b ≡ true
geometry_found (geo.Point p) e b is h = point_found p e b is h
geometry_found (geo.Line points) e b is h = extent_found points e b is h
geometry_found (geo.Area rings) e b is h = extent_found (points_of (geo.Area rings)) e b is h
geometry_found (geo.ManyPoints points) e b is h = extent_found points e b is h
geometry_found (geo.ManyLines lines) e b is h =
    extent_found (points_of (geo.ManyLines lines)) e b is h
geometry_found (geo.ManyAreas areas) e b is h =
    extent_found (points_of (geo.ManyAreas areas)) e b is h

-- an extent does not end before it begins
extent_full : (points : List Point) (e : Box2) → IsLeastBox e points → extent_of points ≡ Some e
    → is_void e ≡ false
extent_full [] e least is = absurd (cc)
extent_full (p ∷ points) e least is =
    let first = least.holds.0 in
    not_void e (omega (arith, ints, first.left, first.right))
    (omega (arith, ints, first.below, first.above))

kept_where : (k : Kind) (v : Value) → value_fits k v ≡ true → IsKeptValue v
kept_where k value.Null h = tt
kept_where k (value.Text t) h = tt
kept_where k (value.Integer n) h = tt
kept_where k (value.Long n) h = tt
kept_where k (value.Boolean b) h = tt
kept_where k (value.Date at) h = tt
kept_where k (value.Geo g) h = none_is (fault_of g) (and_parts (is_of_kind k (value.Geo g)) _ h).1

kind_there : (test : Kind → Bool) (o : Option Kind) → passes_kind test o ≡ true
    → (k : Kind) × (o ≡ Some k)
kind_there test None h = absurd (true≢false (sym h))
kind_there test (Some k) h = (k, refl)

module _ (laws : SpaceLaws) where
  box_found : (v : Value) (b : Box2) → IsKeptValue v → is_box b ≡ true → meets v (box_area b) ≡ true
      → IsFound (is_geometry_in v) (single is_void b)
  box_found (value.Geo g) b kept is h =
      let rises = and_parts (int_le b.low.x b.high.x) (int_le b.low.y b.high.y)
      (and_parts (is_in_world b.low && is_in_world b.high) _ is).1 in
      let across = le_from b.low.x b.high.x rises.0 in
      let along = le_from b.low.y b.high.y rises.1 in
      let extent = laws.extent g kept in
      let overlap = laws.overlap_box g extent.0 b kept
      (laws.least (points_of g) extent.0 extent.1).holds across along h in
      single_finds (is_geometry_in (value.Geo g)) is_void b (not_void b across along)
      (geometry_found g extent.0 b extent.1 overlap)
  box_found _ b kept is h = absurd (true≢false (sym h))

  literal_found : (v : Value) (h : Geometry) → IsKeptValue v → fault_of h ≡ None → meets v h ≡ true
      → IsFound (is_geometry_in v) (box_of h)
  literal_found (value.Geo g) h kept literal_kept e =
      let extent = laws.extent g kept in
      let other = laws.extent h literal_kept in
      let overlap = laws.overlap g h extent.0 other.0 kept literal_kept
      (laws.least (points_of g) extent.0 extent.1).holds
      (laws.least (points_of h) other.0 other.1).holds e in
      let Found : Option Box2 → Type 0 =
      λ o. IsFound (is_geometry_in (value.Geo g)) (box_of_extent o) in
      subst Found (sym other.1)
      (single_finds (is_geometry_in (value.Geo g)) is_void other.0
      (extent_full (points_of h) other.0 (laws.least (points_of h) other.0 other.1) other.1)
      (geometry_found g extent.0 other.0 extent.1 overlap))
  literal_found _ h kept literal_kept e = absurd (true≢false (sym e))

  meets_within : (v : Value) (h : Geometry) → is_within v h ≡ true → meets v h ≡ true
  meets_within (value.Geo (geo.Point p)) h e = laws.inside p h e
  meets_within _ h e = absurd (true≢false (sym e))

  module _ (s : Specification) (f : Feature) (fits : Fits s f) (d : ℕ) where
    kept_at : (test : Kind → Bool) → passes_kind test (kind_at s d) ≡ true
        → IsKeptValue (value_at f d)
    kept_at test h = let there = kind_there test (kind_at s d) h in
        kept_where there.0 (value_at f d) (laws.values s f d there.0 fits there.1)

    abbrev found_at : Bound Box2 → Type 0
    found_at b = IsFound (is_geometry_in (value_at f d)) b

    box_test_found : (a : ℕ) (b : Box2) → a ≡ d → is_box b ≡ true
        → passes_kind is_geometry (kind_at s a) ≡ true → meets (value_at f a) (box_area b) ≡ true
        → found_at (single is_void b)
    box_test_found a b same is k e =
        let k' : passes_kind is_geometry (kind_at s d) ≡ true =
        subst (λ n. passes_kind is_geometry (kind_at s n) ≡ true) same k in
        let e' : meets (value_at f d) (box_area b) ≡ true =
        subst (λ n. meets (value_at f n) (box_area b) ≡ true) same e in
        box_found (value_at f d) b (kept_at is_geometry k') is e'

    literal_test_found : (a : ℕ) (test : Kind → Bool) (g : Geometry) → a ≡ d → is_kept g ≡ true
        → passes_kind test (kind_at s a) ≡ true → meets (value_at f a) g ≡ true
        → found_at (box_of g)
    literal_test_found a test g same is k e =
        let k' : passes_kind test (kind_at s d) ≡ true =
        subst (λ n. passes_kind test (kind_at s n) ≡ true) same k in
        let e' : meets (value_at f d) g ≡ true =
        subst (λ n. meets (value_at f n) g ≡ true) same e in
        literal_found (value_at f d) g (kept_at test k') (none_is (fault_of g) is) e'

    tests_found : (t : Tree) → Suits s t → is_true f t ≡ true → found_at (box_test d t)
    tests_found (bbox a b) h e =
        let suit = and_parts (is_box b) (passes_kind is_geometry (kind_at s a)) h in
        on_finds (is_geometry_in (value_at f d)) a d _
        (λ same. box_test_found a b same suit.0 suit.1 e)
    tests_found (intersects a g) h e =
        let suit = and_parts (is_kept g) (passes_kind is_geometry (kind_at s a)) h in
        on_finds (is_geometry_in (value_at f d)) a d _
        (λ same. literal_test_found a is_geometry g same suit.0 suit.1 e)
    tests_found (within a g) h e =
        let suit = and_parts (has_area g && is_kept g)
        (passes_kind is_point_kind (kind_at s a)) h in
        on_finds (is_geometry_in (value_at f d)) a d _
        (λ same. literal_test_found a is_point_kind g same
        (and_parts (has_area g) (is_kept g) suit.0).1 suit.1
        (meets_within (value_at f a) g e))
    tests_found _ h e = tt

-- ---- points

-- the value is no geometry but a point
abbrev IsPointValue : Value → Type 0
IsPointValue (value.Geo (geo.Point p)) = Unit {0}
IsPointValue (value.Geo _) = ⊥
IsPointValue _ = Unit {0}

narrows : (v : Value) → IsPointValue v → Narrows (is_geometry_in v) met
narrows (value.Geo (geo.Point p)) h c d a b = point_both p c d a b
narrows (value.Geo (geo.Line points)) h c d a b = absurd h
narrows (value.Geo (geo.Area rings)) h c d a b = absurd h
narrows (value.Geo (geo.ManyPoints points)) h c d a b = absurd h
narrows (value.Geo (geo.ManyLines lines)) h c d a b = absurd h
narrows (value.Geo (geo.ManyAreas areas)) h c d a b = absurd h
narrows value.Null h c d a b = absurd (true≢false (sym a))
narrows (value.Text t) h c d a b = absurd (true≢false (sym a))
narrows (value.Integer n) h c d a b = absurd (true≢false (sym a))
narrows (value.Long n) h c d a b = absurd (true≢false (sym a))
narrows (value.Boolean t) h c d a b = absurd (true≢false (sym a))
narrows (value.Date at) h c d a b = absurd (true≢false (sym a))

full : (v : Value) → IsPointValue v → AreFull (is_geometry_in v) is_void
full (value.Geo (geo.Point p)) h b a =
    let at = in_parts p b a in
    not_void b (omega (arith, ints, at.0, at.1)) (omega (arith, ints, at.2, at.3))
full (value.Geo (geo.Line points)) h b a = absurd h
full (value.Geo (geo.Area rings)) h b a = absurd h
full (value.Geo (geo.ManyPoints points)) h b a = absurd h
full (value.Geo (geo.ManyLines lines)) h b a = absurd h
full (value.Geo (geo.ManyAreas areas)) h b a = absurd h
full value.Null h b a = absurd (true≢false (sym a))
full (value.Text t) h b a = absurd (true≢false (sym a))
full (value.Integer n) h b a = absurd (true≢false (sym a))
full (value.Long n) h b a = absurd (true≢false (sym a))
full (value.Boolean t) h b a = absurd (true≢false (sym a))
full (value.Date at) h b a = absurd (true≢false (sym a))

point_fits : (v : Value) → value_fits (kind.Geo shape.Point) v ≡ true → IsPointValue v
point_fits (value.Geo (geo.Point p)) h = tt
point_fits (value.Geo (geo.Line points)) h = absurd (true≢false (sym h))
point_fits (value.Geo (geo.Area rings)) h = absurd (true≢false (sym h))
point_fits (value.Geo (geo.ManyPoints points)) h = absurd (true≢false (sym h))
point_fits (value.Geo (geo.ManyLines lines)) h = absurd (true≢false (sym h))
point_fits (value.Geo (geo.ManyAreas areas)) h = absurd (true≢false (sym h))
point_fits value.Null h = tt
point_fits (value.Text t) h = tt
point_fits (value.Integer n) h = tt
point_fits (value.Long n) h = tt
point_fits (value.Boolean t) h = tt
point_fits (value.Date at) h = tt

-- a kind that holds points alone
point_kind : (o : Option Kind) → is_point_shape (option_and_then shape_of o) ≡ true
    → o ≡ Some (kind.Geo shape.Point)
point_kind None h = absurd (true≢false (sym h))
point_kind (Some kind.Text) h = absurd (true≢false (sym h))
point_kind (Some kind.Integer) h = absurd (true≢false (sym h))
point_kind (Some kind.Long) h = absurd (true≢false (sym h))
point_kind (Some kind.Boolean) h = absurd (true≢false (sym h))
point_kind (Some kind.Date) h = absurd (true≢false (sym h))
point_kind (Some (kind.Geo shape.Point)) h = refl
point_kind (Some (kind.Geo shape.LineString)) h = absurd (true≢false (sym h))
point_kind (Some (kind.Geo shape.Polygon)) h = absurd (true≢false (sym h))
point_kind (Some (kind.Geo shape.MultiPoint)) h = absurd (true≢false (sym h))
point_kind (Some (kind.Geo shape.MultiLineString)) h = absurd (true≢false (sym h))
point_kind (Some (kind.Geo shape.MultiPolygon)) h = absurd (true≢false (sym h))
point_kind (Some (kind.Geo shape.Any)) h = absurd (true≢false (sym h))

rules_sound : (laws : SpaceLaws) (s : Specification) (f : Feature) → Fits s f
    → (d : ℕ) (points : Bool) → (points ≡ true → IsPointValue (value_at f d))
    → IsSoundFor s f (is_geometry_in (value_at f d)) (box_rules d points)
rules_sound laws s f fits d points point = record {
  tests = tests_found laws s f fits d;
  meets = meeting_finds (is_geometry_in (value_at f d)) is_void met joined (widens (value_at f d))
      points (λ e. full (value_at f d) (point e)) (λ e. narrows (value_at f d) (point e));
  counts = capped_finds (is_geometry_in (value_at f d)) joined (widens (value_at f d));
}

pub found_in_boxes : SpaceLaws → (s : Specification) (t : Tree) (f : Feature) (d : ℕ) → Suits s t
    → Fits s f → is_true f t ≡ true → default_geometry_of s ≡ Some d
    → IsFound (is_geometry_in (value_at f d)) (boxes_of s t)
found_in_boxes laws s t f d suit fits e place =
    let points = is_point_shape (default_shape_of s) in
    let point : points ≡ true → IsPointValue (value_at f d) = λ (h : points ≡ true).
    let at : is_point_shape (option_and_then shape_of (kind_at s d)) ≡ true =
    subst (λ o. is_point_shape (option_and_then shape_of (option_and_then (kind_at s) o))
    ≡ true) place h in
    point_fits (value_at f d)
    (laws.values s f d (kind.Geo shape.Point) fits (point_kind (kind_at s d) at)) in
    let Found : Option ℕ → Type 0 =
    λ o. IsFound (is_geometry_in (value_at f d)) (boxes_at o points t) in
    subst Found (sym place)
    (found s f (is_geometry_in (value_at f d)) (box_rules d points)
    (rules_sound laws s f fits d points point) t suit e)
