-- Edges in a box, and boxes that overlap.
use Rattle.std.proofs.Common.{◌≡◌, true, ◌≤ℤ◌, List, [], ◌∷◌, ◌++◌, map, sym, subst, arith}
use Rattle.std.specs.List.{AllByRecursion}
use Rattle.std.specs.Prelude.{int_le}
use Rattle.std.proofs.lemmas.Bool.{and_parts, and_from}
use Rattle.std.proofs.lemmas.Int.{ints, clamps}
use Rattle.std.proofs.lemmas.List.{append-nil}
use Rattle.std.proofs.lemmas.List.Concat.{flat_map-append}
use Rattle.gm_base.proofs.Lists.{all_append}
use Rattle.gm_geom.specs.declared.point.Point.{Point}
use Rattle.gm_geom.specs.declared.point.Box2.{Box2}
use Rattle.gm_geom.specs.declared.geometry.Geometry.{Geometry}
use Rattle.gm_geom.specs.declared.geometry.Geometry.TheVariants as geo
use Rattle.gm_geom.specs.Geometry.{joined, points_of, lone_points_of, lines_of, rings_of, areas_of}
use Rattle.gm_geom.specs.Extent.{IsInBox, HoldsAll}
use Rattle.gm_shapes.specs.declared.segment.Segment.{Segment}
use Rattle.gm_shapes.specs.Segment.{box_of, reaches, do_overlap}
use Rattle.gm_shapes.specs.Edge.{IsEdgeIn, edges_from, edges_between, edges_between_all, lone_edge}
use Rattle.gm_shapes.specs.Edge.{edges_of}
use Rattle.gm_shapes.proofs.Found.{all_front, all_back}

abbrev pub HoldsEdges : Box2 → List Segment → Type 0
HoldsEdges box edges = AllByRecursion (IsEdgeIn box) edges

edges_in_from : (box : Box2) (p : Point) (points : List Point) → IsInBox box p → HoldsAll box points
    → HoldsEdges box (edges_from p points)
edges_in_from box p [] at all = tt
edges_in_from box p (q ∷ points) at all =
    (record { start_in = at; end_in = all.0 }, edges_in_from box q points all.0 all.1)

edges_in_between : (box : Box2) (points : List Point) → HoldsAll box points
    → HoldsEdges box (edges_between points)
edges_in_between box [] all = tt
edges_in_between box (p ∷ points) all = edges_in_from box p points all.0 all.1

edges_in_all : (box : Box2) (lines : List (List Point)) → HoldsAll box (joined lines)
    → HoldsEdges box (edges_between_all lines)
edges_in_all box [] all = tt
edges_in_all box (line ∷ lines) all =
    all_append (IsEdgeIn box) (edges_between line) (edges_between_all lines)
    (edges_in_between box line (all_front (IsInBox box) line (joined lines) all))
    (edges_in_all box lines (all_back (IsInBox box) line (joined lines) all))

edges_in_lone : (box : Box2) (points : List Point) → HoldsAll box points
    → HoldsEdges box (map lone_edge points)
edges_in_lone box [] all = tt
edges_in_lone box (p ∷ points) all =
    (record { start_in = all.0; end_in = all.0 }, edges_in_lone box points all.1)

-- a box that holds the points of a geometry holds its edges
pub edges_in : (box : Box2) (geometry : Geometry) → HoldsAll box (points_of geometry)
    → HoldsEdges box (edges_of geometry)
edges_in box (geo.Point p) all = (record { start_in = all.0; end_in = all.0 }, tt)
edges_in box (geo.Line points) all =
    let line : HoldsAll box (joined (points ∷ [])) = all_append (IsInBox box) points [] all tt in
    all_append (IsEdgeIn box) (edges_between_all (points ∷ [])) []
    (edges_in_all box (points ∷ []) line) tt
edges_in box (geo.Area rings) all =
    let P : List (List Point) → Type 0 = λ lists. HoldsEdges box (edges_between_all lists) in
    subst P (sym (append-nil rings)) (edges_in_all box rings all)
edges_in box (geo.ManyPoints points) all =
    all_append (IsEdgeIn box) (map lone_edge points) [] (edges_in_lone box points all) tt
edges_in box (geo.ManyLines lines) all =
    all_append (IsEdgeIn box) (edges_between_all lines) [] (edges_in_all box lines all) tt
edges_in box (geo.ManyAreas areas) all = edges_in_all box (joined areas) all

-- what holds of each edge of all polygons holds of each edge of each
each_area : (P : Segment → Type 0) (areas : List (List (List Point)))
    → AllByRecursion P (edges_between_all (joined areas))
    → AllByRecursion (λ rings. AllByRecursion P (edges_between_all rings)) areas
each_area P [] all = tt
each_area P (rings ∷ areas) all =
    let Q : List Segment → Type 0 = λ edges. AllByRecursion P edges in
    let both : AllByRecursion P (edges_between_all rings ++ edges_between_all (joined areas)) =
    subst Q (flat_map-append edges_between rings (joined areas)) all in (
      all_front P (edges_between_all rings) (edges_between_all (joined areas)) both,
      each_area P areas
          (all_back P (edges_between_all rings) (edges_between_all (joined areas)) both),
    )

pub areas_in : (box : Box2) (geometry : Geometry) → HoldsAll box (points_of geometry)
    → AllByRecursion (λ rings. HoldsEdges box (edges_between_all rings)) (areas_of geometry)
areas_in box geometry all =
    each_area (IsEdgeIn box) (areas_of geometry)
    (all_back (IsEdgeIn box) (edges_between_all (lines_of geometry))
    (edges_between_all (rings_of geometry))
    (all_back (IsEdgeIn box) (map lone_edge (lone_points_of geometry))
    (edges_between_all (lines_of geometry) ++ edges_between_all (rings_of geometry))
    (edges_in box geometry all)))

pub record Reaches (b c : Box2) : Type 0 where
  pub across : b.low.x ≤ℤ c.high.x
  pub along : b.low.y ≤ℤ c.high.y

pub reaches_out : (b c : Box2) → reaches b c ≡ true → Reaches b c
reaches_out b c e =
    let h : (int_le b.low.x c.high.x ≡ true) × (int_le b.low.y c.high.y ≡ true) =
    and_parts _ _ e in record {
      across = omega (arith, ints, h.0);
      along = omega (arith, ints, h.1);
    }

pub reaches_in : (b c : Box2) → Reaches b c → reaches b c ≡ true
reaches_in b c h =
    and_from (int_le b.low.x c.high.x) (int_le b.low.y c.high.y)
    (sym (omega (arith, ints, h.across))) (sym (omega (arith, ints, h.along)))

-- boxes overlap where boxes inside them do
reaches_more : (b c : Box2) (s t : Segment) → IsEdgeIn b s → IsEdgeIn c t
    → Reaches (box_of s) (box_of t) → Reaches b c
reaches_more b c s t these those h = record {
  across = omega (
    arith,
    ints,
    clamps,
    h.across,
    these.start_in.left,
    these.end_in.left,
    those.start_in.right,
    those.end_in.right,
  );
  along = omega (
    arith,
    ints,
    clamps,
    h.along,
    these.start_in.below,
    these.end_in.below,
    those.start_in.above,
    those.end_in.above,
  );
}

pub overlap_by_edges : (b c : Box2) (s t : Segment) → IsEdgeIn b s → IsEdgeIn c t
    → do_overlap (box_of s) (box_of t) ≡ true → do_overlap b c ≡ true
overlap_by_edges b c s t these those e =
    let h : (reaches (box_of s) (box_of t) ≡ true) × (reaches (box_of t) (box_of s) ≡ true) =
    and_parts _ _ e in
    and_from _ _
    (reaches_in b c (reaches_more b c s t these those (reaches_out _ _ h.0)))
    (reaches_in c b (reaches_more c b t s those these (reaches_out _ _ h.1)))

pub overlap_by_point : (b c : Box2) (p : Point) → IsInBox b p → IsInBox c p → do_overlap b c ≡ true
overlap_by_point b c p these those =
    and_from _ _
    (reaches_in b c
    (record {
      across = omega (arith, ints, these.left, those.right);
      along = omega (arith, ints, these.below, those.above);
    }))
    (reaches_in c b
    (record {
      across = omega (arith, ints, those.left, these.right);
      along = omega (arith, ints, those.below, these.above);
    }))
