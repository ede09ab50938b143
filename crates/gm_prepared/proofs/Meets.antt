-- What a prepared geometry meets, by its bounds, its bands and its areas.
use Rattle.std.proofs.Common.{◌≡◌, ℕ, ◌<◌, ℤ, Bool, true, false, ◌&&◌, ◌||◌, not, List, [], ◌∷◌}
use Rattle.std.proofs.Common.{length, get_or, None, Some, inl, inr, refl, sym, ap, subst, ◌∙◌}
use Rattle.std.proofs.Common.{arith}
use Rattle.std.specs.Prelude.{int_le, filter}
use Rattle.std.specs.List.{list_any, AllByRecursion}
use Rattle.std.proofs.lemmas.Bool.{and_from, or_cases, or_left, or_right}
use Rattle.std.proofs.lemmas.Int.{ints}
use Rattle.std.proofs.lemmas.List.{get_or_read}
use Rattle.std.proofs.lemmas.List.Concat.{flat_map-append}
use Rattle.std.proofs.lemmas.List.Folds.{list_any-append}
use Rattle.gm_base.proofs.Booleans.{fails_with}
use Rattle.gm_geom.specs.declared.point.Point.{Point}
use Rattle.gm_geom.specs.declared.point.Box2.{Box2}
use Rattle.gm_geom.specs.declared.geometry.Geometry.{Geometry}
use Rattle.gm_geom.specs.declared.geometry.Geometry.TheVariants as geo
use Rattle.gm_geom.specs.Geometry.{joined, points_of, areas_of}
use Rattle.gm_geom.specs.Validity.{fault_of, is_empty}
use Rattle.gm_geom.specs.Extent.{IsInBox, HoldsAll, extent_of}
use Rattle.gm_shapes.specs.Segment.{lone_box, do_overlap, do_meet}
use Rattle.gm_shapes.specs.Edge.{lone_edge, edges_between, edges_between_all, meets_edge_of}
use Rattle.gm_shapes.specs.Polygon.{is_on_edge, is_around, is_in_polygon}
use Rattle.gm_shapes.specs.Meeting.{is_in_any, is_within, has_vertex_in, do_intersect}
use Rattle.gm_prepared.specs.declared.edge.Edge.{Edge}
use Rattle.gm_prepared.specs.Edge.{area_edges, numbered_edges}
use Rattle.gm_prepared.specs.Band.{meets_band, band_at}
use Rattle.gm_prepared.specs.Area.{is_held}
use Rattle.gm_prepared.specs.Standing.{no_edges, has_inside}
use Rattle.gm_prepared.specs.Placing.{IsFlatIn, AreBands}
use Rattle.gm_prepared.specs.Prepared.{IsPrepared, IsBetween}
use Rattle.gm_prepared.proofs.Between.{near_band, along, HasHeight, height_in}
use Rattle.gm_prepared.proofs.Held.{held_is}
use Rattle.gm_prepared.proofs.Inside.{within_is}

-- what is kept of a geometry and its copy
pub prepared_of : (geometry same : Geometry) (b : Box2) (edges : List Edge)
    (lists : List (List Edge)) → same ≡ geometry → edges ≡ numbered_edges geometry
    → fault_of geometry ≡ None → extent_of (points_of geometry) ≡ Some b
    → HoldsAll b (points_of geometry) → AllByRecursion (IsFlatIn b) (numbered_edges geometry)
    → AreBands b edges lists → IsPrepared same b lists
prepared_of geometry same b edges lists copied numbered kept extent held flat bands =
    let P : Geometry → Type 0 = λ g. IsPrepared g b lists in
    let Q : List Edge → Type 0 = λ es. AreBands b es lists in
    subst P (sym copied) (record {
      kept = kept;
      extent = extent;
      held = held;
      along = along geometry b extent held;
      flat = flat;
      bands = subst Q numbered bands;
    })

overlaps_at : (b : Box2) (p : Point) → IsInBox b p → do_overlap (lone_box p) b ≡ true
overlaps_at b p at =
    let right : int_le p.x b.high.x ≡ true = sym (omega (arith, ints, at.right)) in
    let above : int_le p.y b.high.y ≡ true = sym (omega (arith, ints, at.above)) in
    let left : int_le b.low.x p.x ≡ true = sym (omega (arith, ints, at.left)) in
    let below : int_le b.low.y p.y ≡ true = sym (omega (arith, ints, at.below)) in
    and_from (int_le p.x b.high.x && int_le p.y b.high.y) (int_le b.low.x p.x && int_le b.low.y p.y)
    (and_from (int_le p.x b.high.x) (int_le p.y b.high.y) right above)
    (and_from (int_le b.low.x p.x) (int_le b.low.y p.y) left below)

-- a point out of the bounds is in no polygon, and so within none
pub apart_point : (b : Box2) (p : Point) (all seen : Bool) → (all ≡ true → IsInBox b p)
    → seen ≡ do_overlap (lone_box p) b → seen ≡ false → seen ≡ all
apart_point b p all seen inside =
    fails_with (do_overlap (lone_box p) b) all seen (λ e. overlaps_at b p (inside e))

-- a geometry with polygons has no other edges
area_only : (geometry : Geometry) → not (is_empty (areas_of geometry)) ≡ true
    → numbered_edges geometry ≡ area_edges 0 (areas_of geometry)
area_only (geo.Point p) some = absurd (cc)
area_only (geo.Line points) some = absurd (cc)
area_only (geo.Area rings) some = refl
area_only (geo.ManyPoints points) some = absurd (cc)
area_only (geo.ManyLines lines) some = absurd (cc)
area_only (geo.ManyAreas areas) some = refl

-- the edges of the band that has the height of a point, where the geometry has polygons
band_edges : (geometry : Geometry) (b : Box2) (lists : List (List Edge)) (p : Point) (k : ℕ)
    (band : List Edge) → IsPrepared geometry b lists → not (is_empty (areas_of geometry)) ≡ true
    → k ≡ band_at b p.y → k < length lists → band ≡ get_or lists k band
    → band ≡ filter (meets_band b (band_at b p.y)) (area_edges 0 (areas_of geometry))
band_edges geometry b lists p k band kept some is_k below read =
    get_or_read lists k band below read [] ∙ kept.bands.each k below
    ∙ ap (λ j. filter (meets_band b j) (numbered_edges geometry)) is_k
    ∙ ap (filter (meets_band b (band_at b p.y))) (area_only geometry some)

-- that band tells whether a polygon holds the point, and whether the point is within one
pub held_in_band : (geometry : Geometry) (b : Box2) (lists : List (List Edge)) (p : Point) (k : ℕ)
    (band : List Edge) (inside seen : Bool) → IsPrepared geometry b lists
    → not (is_empty (areas_of geometry)) ≡ true → inside ≡ do_overlap (lone_box p) b
    → inside ≡ true → k ≡ band_at b p.y → k < length lists → band ≡ get_or lists k band
    → seen ≡ is_held p None false band → seen ≡ is_in_any (areas_of geometry) p
held_in_band geometry b lists p k band inside seen kept some is_inside at is_k below read e =
    let height : HasHeight b.low.y b.high.y p.y = height_in p b (sym is_inside ∙ at) in
    e
    ∙ ap (is_held p None false) (band_edges geometry b lists p k band kept some is_k below read)
    ∙ held_is p (meets_band b (band_at b p.y)) (near_band b p height.from) (areas_of geometry)

pub within_in_band : (geometry : Geometry) (b : Box2) (lists : List (List Edge)) (p : Point) (k : ℕ)
    (band : List Edge) (inside seen : Bool) → IsPrepared geometry b lists
    → not (is_empty (areas_of geometry)) ≡ true → inside ≡ do_overlap (lone_box p) b
    → inside ≡ true → k ≡ band_at b p.y → k < length lists → band ≡ get_or lists k band
    → seen ≡ has_inside p no_edges band → seen ≡ is_within p geometry
within_in_band geometry b lists p k band inside seen kept some is_inside at is_k below read e =
    let height : HasHeight b.low.y b.high.y p.y = height_in p b (sym is_inside ∙ at) in
    e
    ∙ ap (has_inside p no_edges) (band_edges geometry b lists p k band kept some is_k below read)
    ∙ within_is p (meets_band b (band_at b p.y)) (near_band b p height.from) (areas_of geometry)

pub between_same : (low high l h : ℤ) (e : Edge) → l ≡ low → h ≡ high → IsBetween low high e
    → IsBetween l h e
between_same low high l h e is_low is_high at = record {
  y = at.y;
  from_low = omega (arith, ints, is_low, at.from_low);
  to_high = omega (arith, ints, is_high, at.to_high);
  from_edge = at.from_edge;
  to_edge = at.to_edge;
}

none_of : (points : List Point) → false ≡ list_any (is_in_any []) points
none_of [] = refl
none_of (p ∷ points) = none_of points

no_area : (areas : List (List (List Point))) (points : List Point) → not (is_empty areas) ≡ false
    → false ≡ list_any (is_in_any areas) points
no_area [] points none = none_of points
no_area (rings ∷ areas) points none = absurd (cc)

-- no vertex is in a polygon where there is none
pub no_vertex_in : (one two : Geometry) → not (is_empty (areas_of two)) ≡ false
    → false ≡ has_vertex_in one two
no_vertex_in one two none = no_area (areas_of two) (points_of one) none

touched_area : (p : Point) (areas : List (List (List Point)))
    → list_any (do_meet (lone_edge p)) (edges_between_all (joined areas)) ≡ true
    → is_in_any areas p ≡ true
touched_area p [] e = absurd (cc)
touched_area p (rings ∷ areas) e =
    let cut : (list_any (do_meet (lone_edge p)) (edges_between_all rings)
    || list_any (do_meet (lone_edge p)) (edges_between_all (joined areas))) ≡ true =
    sym (ap (list_any (do_meet (lone_edge p))) (flat_map-append edges_between rings (joined areas))
    ∙ list_any-append (do_meet (lone_edge p)) (edges_between_all rings)
    (edges_between_all (joined areas))) ∙ e in
    elim (or_cases (is_on_edge p rings)
    (list_any (do_meet (lone_edge p)) (edges_between_all (joined areas))) cut) [
      | inl here ↦ or_left (is_in_polygon p rings) (is_in_any areas p)
          (or_left (is_on_edge p rings) (is_around p rings) here)
      | inr later ↦ or_right (is_in_polygon p rings) (is_in_any areas p)
          (touched_area p areas later)
    ]

touched_edge : (p : Point) (geometry : Geometry) → not (is_empty (areas_of geometry)) ≡ true
    → meets_edge_of geometry (lone_edge p) ≡ true → is_in_any (areas_of geometry) p ≡ true
touched_edge p (geo.Point q) some e = absurd (cc)
touched_edge p (geo.Line points) some e = absurd (cc)
touched_edge p (geo.Area rings) some e = touched_area p (rings ∷ []) e
touched_edge p (geo.ManyPoints points) some e = absurd (cc)
touched_edge p (geo.ManyLines lines) some e = absurd (cc)
touched_edge p (geo.ManyAreas areas) some e = touched_area p areas e

area_settles : (m a rest : Bool) → (m ≡ true → a ≡ true) → false ≡ rest
    → a ≡ ((m || false) || ((a || false) || rest))
area_settles true true rest f e = refl
area_settles true false rest f e = absurd (cc (f refl))
area_settles false true rest f e = refl
area_settles false false rest f e = e

edge_settles : (m a rest : Bool) → false ≡ a → false ≡ rest
    → m ≡ ((m || false) || ((a || false) || rest))
edge_settles true a rest none e = refl
edge_settles false true rest none e = absurd (cc)
edge_settles false false rest none e = e

nowhere : (p : Point) (areas : List (List (List Point))) → not (is_empty areas) ≡ false
    → false ≡ is_in_any areas p
nowhere p [] none = refl
nowhere p (rings ∷ areas) none = absurd (cc)

-- a point meets a geometry with polygons where it is in one, and another where it is on an edge
pub point_in_area : (p : Point) (geometry : Geometry) → not (is_empty (areas_of geometry)) ≡ true
    → is_in_any (areas_of geometry) p ≡ do_intersect (geo.Point p) geometry
point_in_area p geometry some =
    area_settles (meets_edge_of geometry (lone_edge p)) (is_in_any (areas_of geometry) p)
    (has_vertex_in geometry (geo.Point p)) (touched_edge p geometry some)
    (none_of (points_of geometry))

pub point_on_edge : (p : Point) (geometry : Geometry) → not (is_empty (areas_of geometry)) ≡ false
    → meets_edge_of geometry (lone_edge p) ≡ do_intersect (geo.Point p) geometry
point_on_edge p geometry none =
    edge_settles (meets_edge_of geometry (lone_edge p)) (is_in_any (areas_of geometry) p)
    (has_vertex_in geometry (geo.Point p)) (nowhere p (areas_of geometry) none)
    (none_of (points_of geometry))
