-- The numbered edges of a geometry are its edges.
use Rattle.std.proofs.Common.{◌≡◌, ℕ, suc, Bool, List, [], ◌∷◌, ◌++◌, map, Option, None, Some}
use Rattle.std.proofs.Common.{refl, sym, ap, subst, ◌∙◌, arith}
use Rattle.std.specs.List.{list_any, AllByRecursion}
use Rattle.std.proofs.lemmas.Int.{ints, clamps}
use Rattle.std.proofs.lemmas.List.{map-append, append_assoc}
use Rattle.std.proofs.lemmas.List.Concat.{flat_map-append}
use Rattle.gm_base.proofs.Lists.{any_map}
use Rattle.gm_geom.specs.declared.point.Point.{Point}
use Rattle.gm_geom.specs.declared.point.Box2.{Box2}
use Rattle.gm_geom.specs.declared.geometry.Geometry.{Geometry}
use Rattle.gm_geom.specs.Geometry.{joined, lone_points_of, lines_of, rings_of, areas_of}
use Rattle.gm_shapes.specs.declared.segment.Segment.{Segment}
use Rattle.gm_shapes.specs.Edge.{IsEdgeIn, lone_edge, edges_between, edges_between_all, edges_of}
use Rattle.gm_prepared.specs.declared.edge.Edge.{Edge}
use Rattle.gm_prepared.specs.Edge.{segment_of, tagged, area_edges, numbered_edges}
use Rattle.gm_prepared.specs.Placing.{IsFlatIn}

tagged_segments : (area : Option ℕ) (segments : List Segment)
    → map segment_of (tagged area segments) ≡ segments
tagged_segments area [] = refl
tagged_segments area (s ∷ segments) = ap (λ rest. s ∷ rest) (tagged_segments area segments)

area_segments : (n : ℕ) (areas : List (List (List Point)))
    → map segment_of (area_edges n areas) ≡ edges_between_all (joined areas)
area_segments n [] = refl
area_segments n (rings ∷ areas) =
    map-append segment_of (tagged (Some n) (edges_between_all rings)) (area_edges (suc n) areas)
    ∙ ap (λ front. front ++ map segment_of (area_edges (suc n) areas))
    (tagged_segments (Some n) (edges_between_all rings))
    ∙ ap (λ rest. edges_between_all rings ++ rest) (area_segments (suc n) areas)
    ∙ sym (flat_map-append edges_between rings (joined areas))

pub lists_edges : (geometry : Geometry)
    → map segment_of (numbered_edges geometry) ≡ edges_of geometry
lists_edges geometry =
    map-append segment_of
    (tagged None (map lone_edge (lone_points_of geometry)
    ++ edges_between_all (lines_of geometry))) (area_edges 0 (areas_of geometry))
    ∙ ap (λ front. front ++ map segment_of (area_edges 0 (areas_of geometry)))
    (tagged_segments None
    (map lone_edge (lone_points_of geometry) ++ edges_between_all (lines_of geometry)))
    ∙ ap (λ rest. (map lone_edge (lone_points_of geometry) ++ edges_between_all (lines_of geometry))
    ++ rest) (area_segments 0 (areas_of geometry))
    ∙ append_assoc (map lone_edge (lone_points_of geometry)) (edges_between_all (lines_of geometry))
    (edges_between_all (rings_of geometry))

-- what is tested of each numbered edge is tested of each edge
pub any_numbered : (test : Segment → Bool) (geometry : Geometry)
    → list_any (λ e. test (segment_of e)) (numbered_edges geometry)
    ≡ list_any test (edges_of geometry)
any_numbered test geometry =
    sym (any_map test segment_of (numbered_edges geometry))
    ∙ ap (list_any test) (lists_edges geometry)

all_mapped : {X Y : Type 0} (P : Y → Type 0) (Q : X → Type 0) (f : X → Y)
    → ((x : X) → P (f x) → Q x) → (xs : List X) → AllByRecursion P (map f xs) → AllByRecursion Q xs
all_mapped P Q f each [] all = tt
all_mapped P Q f each (x ∷ xs) all = (each x all.0, all_mapped P Q f each xs all.1)

flat_edge : (box : Box2) (e : Edge) → IsEdgeIn box (segment_of e) → IsFlatIn box e
flat_edge box e at =
    record {
      low_in = omega (arith, ints, clamps, at.start_in.below, at.end_in.below);
      high_in = omega (arith, ints, clamps, at.start_in.above, at.end_in.above);
    }

-- the numbered edges of a geometry lie in the height of a box that holds its edges
pub flat_edges : (box : Box2) (geometry : Geometry)
    → AllByRecursion (IsEdgeIn box) (edges_of geometry)
    → AllByRecursion (IsFlatIn box) (numbered_edges geometry)
flat_edges box geometry all =
    let P : List Segment → Type 0 = λ segments. AllByRecursion (IsEdgeIn box) segments in
    all_mapped (IsEdgeIn box) (IsFlatIn box) segment_of (flat_edge box) (numbered_edges geometry)
    (subst P (sym (lists_edges geometry)) all)
