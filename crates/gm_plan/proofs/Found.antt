-- What is found of the default geometry.
use Rattle.std.proofs.Common.{◌≡◌, ℕ, Bool, true, false, ◌||◌, List, [], ◌∷◌, refl, sym, ap, ◌∙◌}
use Rattle.std.proofs.Common.{true≢false, ◌⊎◌, inl, inr, Option, Some, None, subst}
use Rattle.std.proofs.lemmas.Bool.{eqb-true}
use Rattle.std.specs.Prelude.{option_and_then, ◌==◌}
use Rattle.std.specs.List.{list_any}
use Rattle.gm_geom.specs.declared.point.Point.{Point}
use Rattle.gm_geom.specs.declared.point.Box2.{Box2}
use Rattle.gm_geom.specs.declared.geometry.Geometry.{Geometry}
use Rattle.gm_geom.specs.declared.geometry.Geometry.TheVariants as geo
use Rattle.gm_geom.specs.Geometry.{points_of}
use Rattle.gm_geom.specs.Extent.{extent_of}
use Rattle.gm_shapes.specs.Segment.{do_overlap}
use Rattle.gm_types.specs.declared.kind.GeoKind.{GeoKind}
use Rattle.gm_types.specs.declared.kind.GeoKind.TheVariants as shape
use Rattle.gm_types.specs.declared.kind.Kind.TheVariants as kind
use Rattle.gm_types.specs.Kind.{shape_of}
use Rattle.gm_types.specs.Specification.{Specification, kind_at, default_geometry_of}
use Rattle.gm_types.specs.Specification.{default_shape_of}
use Rattle.gm_feature.specs.declared.feature.Feature.{Feature}
use Rattle.gm_feature.specs.declared.value.Value.{Value}
use Rattle.gm_feature.specs.declared.value.Value.TheVariants as value
use Rattle.gm_feature.specs.Feature.{value_at}
use Rattle.gm_feature.specs.Value.{value_fits}
use Rattle.gm_keys.specs.Whereabouts.{geometry_of, point_of, point_in, box_of, box_in}
use Rattle.gm_bounds.specs.declared.bound.Bound.{Bound}
use Rattle.gm_bounds.specs.declared.bound.Bound.TheVariants.{World, Listed}
use Rattle.gm_bounds.specs.Applicability.{is_listed}
use Rattle.gm_bounds.specs.ClosedBox.{is_in_box, is_geometry_in, extent_overlaps}
use Rattle.gm_bounds.specs.Found.{IsFound}
use Rattle.gm_plan.specs.KeyRanges.{list_of}
use Rattle.gm_plan.proofs.InPlane.{Overlap, point_overlap, extent_overlap}

pub never : {X : Type 0} (p : X → Bool) (xs : List X) → ((x : X) → p x ≡ false)
    → list_any p xs ≡ false
never p [] h = refl
never p (x ∷ xs) h = ap (λ b. b || list_any p xs) (h x) ∙ never p xs h

pub never_any : {X : Type 0} (p : X → Bool) (xs : List X) → ((x : X) → p x ≡ false)
    → list_any p xs ≡ true → ⊥
never_any p xs h e = true≢false (sym e ∙ never p xs h)

-- a bound that is a list, and what is found there
pub found_in_list : {X : Type 0} (test : X → Bool) (b : Bound X) → is_listed b ≡ true
    → IsFound test b → list_any test (list_of b) ≡ true
found_in_list test World h found = absurd (true≢false (sym h))
found_in_list test (Listed xs) h found = found

place_by : (s : Specification) (o : Option ℕ) (g : GeoKind)
    → option_and_then shape_of (option_and_then (kind_at s) o) ≡ Some g → (d : ℕ) × (o ≡ Some d)
place_by s None g h = cc
place_by s (Some d) g h = (d, refl)

pub place_of_shape : (s : Specification) (g : GeoKind) → default_shape_of s ≡ Some g
    → (d : ℕ) × (default_geometry_of s ≡ Some d)
place_of_shape s g h = place_by s s.geometry g h

-- ---- points
pub record FoundPoint (v : Value) (boxes : List Box2) : Type 0 where
  pub point : Point
  pub is : v ≡ value.Geo (geo.Point point)
  pub found : list_any (is_in_box point) boxes ≡ true

pub point_found : (v : Value) (boxes : List Box2) → value_fits (kind.Geo shape.Point) v ≡ true
    → list_any (is_geometry_in v) boxes ≡ true → FoundPoint v boxes
point_found value.Null boxes fits h =
    absurd (never_any (is_geometry_in value.Null) boxes (λ b. refl) h)
point_found (value.Text t) boxes fits h = absurd (true≢false (sym fits))
point_found (value.Integer n) boxes fits h = absurd (true≢false (sym fits))
point_found (value.Long n) boxes fits h = absurd (true≢false (sym fits))
point_found (value.Boolean b) boxes fits h = absurd (true≢false (sym fits))
point_found (value.Date at) boxes fits h = absurd (true≢false (sym fits))
point_found (value.Geo (geo.Point p)) boxes fits h = record { point = p; is = refl; found = h }
point_found (value.Geo (geo.Line points)) boxes fits h = absurd (true≢false (sym fits))
point_found (value.Geo (geo.Area rings)) boxes fits h = absurd (true≢false (sym fits))
point_found (value.Geo (geo.ManyPoints points)) boxes fits h = absurd (true≢false (sym fits))
point_found (value.Geo (geo.ManyLines lines)) boxes fits h = absurd (true≢false (sym fits))
point_found (value.Geo (geo.ManyAreas areas)) boxes fits h = absurd (true≢false (sym fits))

pub has_point : (s : Specification) (f : Feature) (d : ℕ) (p : Point)
    → default_geometry_of s ≡ Some d → value_at f d ≡ value.Geo (geo.Point p)
    → point_in s f ≡ Some p
has_point s f d p e h =
    ap (λ o. option_and_then point_of (option_and_then (λ n. geometry_of (value_at f n)) o)) e
    ∙ ap (λ v. option_and_then point_of (geometry_of v)) h

-- ---- extents
pub record FoundExtent (v : Value) (boxes : List Box2) : Type 0 where
  pub geometry : Geometry
  pub extent : Box2
  pub is : v ≡ value.Geo geometry
  pub extent_is : extent_of (points_of geometry) ≡ Some extent
  pub test : Box2 → Bool
  pub found : list_any test boxes ≡ true
  pub tells : (b : Box2) → test b ≡ true → Overlap extent.low extent.high b

extent_by : (g : Geometry) (o : Option Box2) (boxes : List Box2) → extent_of (points_of g) ≡ o
    → list_any (extent_overlaps o) boxes ≡ true → FoundExtent (value.Geo g) boxes
extent_by g None boxes e h = absurd (never_any (extent_overlaps None) boxes (λ b. refl) h)
extent_by g (Some extent) boxes e h = record {
  geometry = g;
  extent = extent;
  is = refl;
  extent_is = e;
  test = do_overlap extent;
  found = h;
  tells = λ b k. extent_overlap extent b k;
}

pub extent_found : (v : Value) (boxes : List Box2) → list_any (is_geometry_in v) boxes ≡ true
    → FoundExtent v boxes
extent_found value.Null boxes h = absurd (never_any (is_geometry_in value.Null) boxes (λ b. refl) h)
extent_found (value.Text t) boxes h =
    absurd (never_any (is_geometry_in (value.Text t)) boxes (λ b. refl) h)
extent_found (value.Integer n) boxes h =
    absurd (never_any (is_geometry_in (value.Integer n)) boxes (λ b. refl) h)
extent_found (value.Long n) boxes h =
    absurd (never_any (is_geometry_in (value.Long n)) boxes (λ b. refl) h)
extent_found (value.Boolean t) boxes h =
    absurd (never_any (is_geometry_in (value.Boolean t)) boxes (λ b. refl) h)
extent_found (value.Date at) boxes h =
    absurd (never_any (is_geometry_in (value.Date at)) boxes (λ b. refl) h)
extent_found (value.Geo (geo.Point p)) boxes h = record {
  geometry = geo.Point p;
  extent = record { low = p; high = p };
  is = refl;
  extent_is = refl;
  test = is_in_box p;
  found = h;
  tells = λ b k. point_overlap p b k;
}
extent_found (value.Geo (geo.Line points)) boxes h =
    extent_by (geo.Line points) (extent_of points) boxes refl h
extent_found (value.Geo (geo.Area rings)) boxes h =
    extent_by (geo.Area rings) (extent_of (points_of (geo.Area rings))) boxes refl h
extent_found (value.Geo (geo.ManyPoints points)) boxes h =
    extent_by (geo.ManyPoints points) (extent_of points) boxes refl h
extent_found (value.Geo (geo.ManyLines lines)) boxes h =
    extent_by (geo.ManyLines lines) (extent_of (points_of (geo.ManyLines lines))) boxes refl h
extent_found (value.Geo (geo.ManyAreas areas)) boxes h =
    extent_by (geo.ManyAreas areas) (extent_of (points_of (geo.ManyAreas areas))) boxes refl h

pub has_box : (s : Specification) (f : Feature) (d : ℕ) (g : Geometry) (e : Box2)
    → default_geometry_of s ≡ Some d → value_at f d ≡ value.Geo g → extent_of (points_of g) ≡ Some e
    → box_in s f ≡ Some e
has_box s f d g e p h k =
    ap (λ o. option_and_then box_of (option_and_then (λ n. geometry_of (value_at f n)) o)) p
    ∙ ap (λ v. option_and_then box_of (geometry_of v)) h ∙ k

-- ---- the listed widths
four : (a b c d : Bool) → (a || b || c || d) ≡ true
    → (a ≡ true) ⊎ ((b ≡ true) ⊎ ((c ≡ true) ⊎ (d ≡ true)))
four true b c d h = inl refl
four false true c d h = inr (inl refl)
four false false true d h = inr (inr (inl refl))
four false false false d h = inr (inr (inr h))

pub by_four : (P : ℕ → Type 0) (k l m n x : ℕ)
    → ((x == k) || (x == l) || (x == m) || (x == n)) ≡ true → P k → P l → P m → P n → P x
by_four P k l m n x h p q r t = by (four (x == k) (x == l) (x == m) (x == n) h)
  where
    by : ((x == k) ≡ true) ⊎ (((x == l) ≡ true) ⊎ (((x == m) ≡ true) ⊎ ((x == n) ≡ true))) → P x
    by (inl e) = subst P (sym (eqb-true x k e)) p
    by (inr (inl e)) = subst P (sym (eqb-true x l e)) q
    by (inr (inr (inl e))) = subst P (sym (eqb-true x m e)) r
    by (inr (inr (inr e))) = subst P (sym (eqb-true x n e)) t
