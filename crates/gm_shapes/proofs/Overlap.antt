-- Geometries that meet have bounds that overlap.
use Rattle.std.proofs.Common.{◌≡◌, ◌↔◌, Bool, true, false, ◌||◌, if◌then◌else◌, ◌≤ℤ◌, List, [], ◌∷◌}
use Rattle.std.proofs.Common.{Some, None, refl, sym, ap, ◌∙◌, inl, inr, arith}
use Rattle.std.proofs.lemmas.Int.{ints, clamps}
use Rattle.gm_base.proofs.Booleans.{fails_with, same_tests}
use Rattle.gm_geom.specs.declared.geometry.Geometry.TheVariants as geo
use Rattle.std.specs.List.{list_all, AllByRecursion}
use Rattle.std.proofs.lemmas.Bool.{and_parts, and_from, or_cases, or_left, or_right, not-false}
use Rattle.std.proofs.lemmas.List.Folds.{list_all-append}
use Rattle.gm_geom.specs.declared.point.Point.{Point}
use Rattle.gm_geom.specs.declared.point.Box2.{Box2}
use Rattle.gm_geom.specs.declared.geometry.Geometry.{Geometry}
use Rattle.gm_geom.specs.declared.validity.GeomFault.TheVariants.{Many, Range, Short, Ring}
use Rattle.gm_geom.specs.Geometry.{joined, points_of, areas_of}
use Rattle.gm_geom.specs.Validity.{fault_of, is_closed}
use Rattle.gm_geom.specs.Extent.{IsInBox, HoldsAll}
use Rattle.gm_shapes.specs.declared.segment.Segment.{Segment}
use Rattle.gm_shapes.specs.Segment.{box_of, lone_box, do_overlap, do_meet}
use Rattle.gm_shapes.specs.Edge.{IsEdgeIn, lone_edge, edges_of, edges_between_all, meets_edge_of}
use Rattle.gm_shapes.specs.Polygon.{is_on_edge, is_around, is_in_polygon}
use Rattle.gm_shapes.specs.Meeting.{is_in_any, has_edge_on, has_vertex_in, do_intersect, is_within}
use Rattle.gm_shapes.specs.Meeting.{box_area, box_ring}
use Rattle.gm_shapes.proofs.Found.{Passing, found, all_both}
use Rattle.gm_shapes.proofs.Boxes.{HoldsEdges, edges_in, areas_in, overlap_by_edges}
use Rattle.gm_shapes.proofs.Boxes.{overlap_by_point}
use Rattle.gm_shapes.proofs.Crossings.{around_in_box}
use Rattle.gm_shapes.proofs.Swaps.{overlap_swap}
use Rattle.gm_shapes.proofs.Bounding.{within_meets}
use Rattle.gm_shapes.proofs.BoxArea.{ring_closed, holds_corners, in_polygon, point_meets_box}
use Rattle.gm_shapes.proofs.BoxArea.{in_box_by_overlap}

-- a geometry that is kept has closed rings
fourth : (a b c d : Bool)
    → (if a then Some Many
    else (if b then Some Range else (if c then Some Short else (if d then Some Ring else None))))
    ≡ None → d ≡ false
fourth true b c d e = absurd (cc)
fourth false true c d e = absurd (cc)
fourth false false true d e = absurd (cc)
fourth false false false true e = absurd (cc)
fourth false false false false e = refl

abbrev AreClosed : List (List Point) → Type 0
AreClosed rings = list_all is_closed rings ≡ true

closed_each : (areas : List (List (List Point))) → AreClosed (joined areas)
    → AllByRecursion AreClosed areas
closed_each [] e = tt
closed_each (rings ∷ areas) e =
    let both : (list_all is_closed rings ≡ true) × (list_all is_closed (joined areas) ≡ true) =
    and_parts _ _ (sym (list_all-append is_closed rings (joined areas)) ∙ e) in
    (both.0, closed_each areas both.1)

areas_closed : (geometry : Geometry) → fault_of geometry ≡ None
    → AllByRecursion AreClosed (areas_of geometry)
areas_closed geometry kept = closed_each (areas_of geometry) (not-false _ (fourth _ _ _ _ kept))

by_edges : (one two : Geometry) (b c : Box2) → HoldsAll b (points_of one)
    → HoldsAll c (points_of two) → has_edge_on one two ≡ true → do_overlap b c ≡ true
by_edges one two b c hb hc e =
    let s : Passing (meets_edge_of two) (IsEdgeIn b) =
    found (meets_edge_of two) (IsEdgeIn b) (edges_of one) e (edges_in b one hb) in
    let t : Passing (do_meet s.0) (IsEdgeIn c) =
    found (do_meet s.0) (IsEdgeIn c) (edges_of two) s.1 (edges_in c two hc) in
    overlap_by_edges b c s.0 t.0 s.2 t.2 (and_parts _ _ t.1).0

on_edge : (b c : Box2) (p : Point) (rings : List (List Point)) → IsInBox b p
    → HoldsEdges c (edges_between_all rings) → is_on_edge p rings ≡ true → do_overlap b c ≡ true
on_edge b c p rings at held e =
    let t : Passing (do_meet (lone_edge p)) (IsEdgeIn c) =
    found (do_meet (lone_edge p)) (IsEdgeIn c) (edges_between_all rings) e held in
    let lone : IsEdgeIn b (lone_edge p) = record { start_in = at; end_in = at } in
    overlap_by_edges b c (lone_edge p) t.0 lone t.2 (and_parts _ _ t.1).0

by_vertex : (one two : Geometry) (b c : Box2) → AllByRecursion AreClosed (areas_of two)
    → HoldsAll b (points_of one) → HoldsAll c (points_of two) → has_vertex_in one two ≡ true
    → do_overlap b c ≡ true
by_vertex one two b c kept hb hc e =
    let p : Passing (is_in_any (areas_of two)) (IsInBox b) =
    found (is_in_any (areas_of two)) (IsInBox b) (points_of one) e hb in
    let P : List (List Point) → Type 0 = λ rings. HoldsEdges c (edges_between_all rings) in
    let rings : Passing (is_in_polygon p.0) (λ rings. P rings × AreClosed rings) =
    found (is_in_polygon p.0) (λ rings. P rings × AreClosed rings) (areas_of two) p.1
    (all_both P AreClosed (areas_of two) (areas_in c two hc) kept) in
    elim (or_cases (is_on_edge p.0 rings.0) (is_around p.0 rings.0) rings.1) [
      | inl on ↦ on_edge b c p.0 rings.0 p.2 rings.2.0 on
      | inr around ↦
          overlap_by_point b c p.0 p.2 (around_in_box c p.0 rings.0 rings.2.0 rings.2.1 around)
    ]

pub overlap_closed : (one two : Geometry) (b c : Box2) → AllByRecursion AreClosed (areas_of one)
    → AllByRecursion AreClosed (areas_of two) → HoldsAll b (points_of one)
    → HoldsAll c (points_of two) → do_intersect one two ≡ true → do_overlap b c ≡ true
overlap_closed one two b c closed1 closed2 hb hc e =
    elim (or_cases (has_edge_on one two) (has_vertex_in one two || has_vertex_in two one) e) [
      | inl edges ↦ by_edges one two b c hb hc edges
      | inr vertex ↦ elim (or_cases (has_vertex_in one two) (has_vertex_in two one) vertex) [
        | inl first ↦ by_vertex one two b c closed2 hb hc first
        | inr second ↦ overlap_swap b c ∙ by_vertex two one c b closed1 hc hb second
      ]
    ]

pub overlap : (one two : Geometry) (b c : Box2) → fault_of one ≡ None → fault_of two ≡ None
    → HoldsAll b (points_of one) → HoldsAll c (points_of two) → do_intersect one two ≡ true
    → do_overlap b c ≡ true
overlap one two b c kept1 kept2 =
    overlap_closed one two b c (areas_closed one kept1) (areas_closed two kept2)

-- the same of a closed box
pub overlap_box : (geometry : Geometry) (b box : Box2) → fault_of geometry ≡ None
    → HoldsAll b (points_of geometry) → box.low.x ≤ℤ box.high.x → box.low.y ≤ℤ box.high.y
    → do_intersect geometry (box_area box) ≡ true → do_overlap b box ≡ true
overlap_box geometry b box kept hb across along =
    overlap_closed geometry (box_area box) b box (areas_closed geometry kept)
    (and_from _ _ (ring_closed box) refl, tt) hb (holds_corners box across along)

pub apart : (one two : Geometry) (b c : Box2) (seen : Bool) → fault_of one ≡ None
    → fault_of two ≡ None → HoldsAll b (points_of one) → HoldsAll c (points_of two)
    → seen ≡ do_overlap b c → seen ≡ false → seen ≡ do_intersect one two
apart one two b c seen kept1 kept2 hb hc =
    fails_with (do_overlap b c) (do_intersect one two) seen (overlap one two b c kept1 kept2 hb hc)

pub apart_box : (geometry : Geometry) (b box : Box2) (seen : Bool) → fault_of geometry ≡ None
    → HoldsAll b (points_of geometry) → box.low.x ≤ℤ box.high.x → box.low.y ≤ℤ box.high.y
    → seen ≡ do_overlap b box → seen ≡ false → seen ≡ do_intersect geometry (box_area box)
apart_box geometry b box seen kept hb across along =
    fails_with (do_overlap b box) (do_intersect geometry (box_area box)) seen
    (overlap_box geometry b box kept hb across along)

-- an edge lies in its own box
edge_in_its_box : (s : Segment) → IsEdgeIn (box_of s) s
edge_in_its_box s = record {
  start_in = record {
    left = omega (arith, ints, clamps);
    right = omega (arith, ints, clamps);
    below = omega (arith, ints, clamps);
    above = omega (arith, ints, clamps);
  };
  end_in = record {
    left = omega (arith, ints, clamps);
    right = omega (arith, ints, clamps);
    below = omega (arith, ints, clamps);
    above = omega (arith, ints, clamps);
  };
}

-- an edge that meets one of a geometry has a box that overlaps the bounds
pub edge_in_bounds : (geometry : Geometry) (b : Box2) → HoldsAll b (points_of geometry)
    → (s : Segment) → meets_edge_of geometry s ≡ true → do_overlap (box_of s) b ≡ true
edge_in_bounds geometry b held s e =
    let t : Passing (do_meet s) (IsEdgeIn b) =
    found (do_meet s) (IsEdgeIn b) (edges_of geometry) e (edges_in b geometry held) in
    overlap_by_edges (box_of s) b s t.0 (edge_in_its_box s) t.2 (and_parts _ _ t.1).0

in_lone_box : (p : Point) → HoldsAll (lone_box p) (p ∷ [])
in_lone_box p =
    let none : p.x ≤ℤ p.x = omega (arith, ints) in
    let flat : p.y ≤ℤ p.y = omega (arith, ints) in
    (record { left = none; right = none; below = flat; above = flat }, tt)

-- a point that meets a geometry lies in the bounds
point_in_bounds_closed : (p : Point) (geometry : Geometry) (b : Box2)
    → AllByRecursion AreClosed (areas_of geometry) → HoldsAll b (points_of geometry)
    → do_intersect (geo.Point p) geometry ≡ true → do_overlap (lone_box p) b ≡ true
point_in_bounds_closed p geometry b closed held e =
    overlap_closed (geo.Point p) geometry (lone_box p) b tt closed (in_lone_box p) held e

pub point_in_bounds : (p : Point) (geometry : Geometry) (b : Box2) → fault_of geometry ≡ None
    → HoldsAll b (points_of geometry) → do_intersect (geo.Point p) geometry ≡ true → IsInBox b p
point_in_bounds p geometry b kept held e =
    in_box_by_overlap p b (point_in_bounds_closed p geometry b (areas_closed geometry kept) held e)

pub within_in_bounds : (p : Point) (area : Geometry) (b : Box2) → fault_of area ≡ None
    → HoldsAll b (points_of area) → is_within p area ≡ true → IsInBox b p
within_in_bounds p area b kept held e = point_in_bounds p area b kept held (within_meets p area e)

meets_where_in_area : (p : Point) (geometry : Geometry) → is_in_any (areas_of geometry) p ≡ true
    → do_intersect (geo.Point p) geometry ≡ true
meets_where_in_area p geometry e =
    or_right (has_edge_on (geo.Point p) geometry) _
    (or_left _ (has_vertex_in geometry (geo.Point p))
    (or_left (is_in_any (areas_of geometry) p) false e))

pub area_in_bounds : (geometry : Geometry) (b : Box2) → fault_of geometry ≡ None
    → HoldsAll b (points_of geometry) → (p : Point) → is_in_any (areas_of geometry) p ≡ true
    → do_overlap (lone_box p) b ≡ true
area_in_bounds geometry b kept held p e =
    point_in_bounds_closed p geometry b (areas_closed geometry kept) held
    (meets_where_in_area p geometry e)

pub point_of_area : (p : Point) (geometry : Geometry) (b : Box2) → fault_of geometry ≡ None
    → HoldsAll b (points_of geometry) → is_in_any (areas_of geometry) p ≡ true → IsInBox b p
point_of_area p geometry b kept held e =
    in_box_by_overlap p b (area_in_bounds geometry b kept held p e)

-- a point meets a closed box, and is in it as a polygon, exactly where it lies in it
meets_in_box : (p : Point) (box : Box2) → box.low.x ≤ℤ box.high.x → box.low.y ≤ℤ box.high.y
    → do_intersect (geo.Point p) (box_area box) ≡ true → do_overlap (lone_box p) box ≡ true
meets_in_box p box across along met =
    point_in_bounds_closed p (box_area box) box (and_from _ _ (ring_closed box) refl, tt)
    (holds_corners box across along) met

pub point_in_box : (p : Point) (box : Box2) → box.low.x ≤ℤ box.high.x → box.low.y ≤ℤ box.high.y
    → do_overlap (lone_box p) box ≡ do_intersect (geo.Point p) (box_area box)
point_in_box p box across along =
    same_tests _ _ (λ e. point_meets_box p box (in_box_by_overlap p box e))
    (meets_in_box p box across along)

pub meets_exactly_in_box : (p : Point) (box : Box2) → box.low.x ≤ℤ box.high.x
    → box.low.y ≤ℤ box.high.y → ((do_intersect (geo.Point p) (box_area box) ≡ true) ↔ IsInBox box p)
meets_exactly_in_box p box across along =
    (λ met. in_box_by_overlap p box (meets_in_box p box across along met), point_meets_box p box)

pub area_of_box : (p : Point) (box : Box2) → box.low.x ≤ℤ box.high.x → box.low.y ≤ℤ box.high.y
    → do_overlap (lone_box p) box ≡ is_in_any (areas_of (box_area box)) p
area_of_box p box across along =
    same_tests _ _
    (λ e. or_left (is_in_polygon p (box_ring box ∷ [])) false
    (in_polygon box p (in_box_by_overlap p box e)))
    (λ e. meets_in_box p box across along (meets_where_in_area p (box_area box) e))

pub edge_apart : (s : Segment) (b box : Box2) (seen : Bool) → box.low.x ≤ℤ box.high.x
    → box.low.y ≤ℤ box.high.y → b ≡ box_of s → seen ≡ do_overlap b box → seen ≡ false
    → seen ≡ meets_edge_of (box_area box) s
edge_apart s b box seen across along is e =
    fails_with (do_overlap (box_of s) box) (meets_edge_of (box_area box) s) seen
    (edge_in_bounds (box_area box) box (holds_corners box across along) s)
    (e ∙ ap (λ o. do_overlap o box) is)
