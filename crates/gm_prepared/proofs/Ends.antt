-- The ends of the edges of a geometry that is kept are its points.
use Rattle.std.proofs.Common.{◌≡◌, ◌≤◌, Bool, true, false, ◌||◌, List, [], ◌∷◌, ◌++◌, map, length}
use Rattle.std.proofs.Common.{None, refl, sym, ap, ◌∙◌, arith}
use Rattle.std.specs.List.{list_any, list_all}
use Rattle.std.proofs.lemmas.Bool.{or_parts, or_from, and_parts, ltb-false, leb-true, le-ltb}
use Rattle.std.proofs.lemmas.List.{append-nil}
use Rattle.std.proofs.lemmas.List.Folds.{list_any-append}
use Rattle.gm_geom.specs.declared.point.Point.{Point}
use Rattle.gm_geom.specs.declared.geometry.Geometry.{Geometry}
use Rattle.gm_geom.specs.declared.geometry.Geometry.TheVariants as geo
use Rattle.gm_geom.specs.Geometry.{joined, points_of}
use Rattle.gm_geom.specs.Validity.{fault_of, has_one_point, is_closed}
use Rattle.gm_shapes.specs.declared.segment.Segment.{Segment}
use Rattle.gm_shapes.specs.Edge.{lone_edge, edges_from, edges_between, edges_between_all, edges_of}
use Rattle.gm_prepared.specs.declared.edge.Edge.{Edge}
use Rattle.gm_prepared.specs.Edge.{numbered_edges}
use Rattle.gm_prepared.proofs.Numbered.{any_numbered}
use Rattle.gm_prepared.proofs.Numbers.{no_short_line, all_closed}

-- an end of the segment passes
abbrev has_end : (Point → Bool) → Segment → Bool
has_end test s = test s.start || test s.end

end_once : (a b : Bool) → ((a || b) || false) ≡ (a || (b || false))
end_once true b = refl
end_once false b = refl

ends_chain : (a b rest : Bool) → ((a || b) || (b || rest)) ≡ (a || (b || rest))
ends_chain true b rest = refl
ends_chain false true rest = refl
ends_chain false false rest = refl

ends_from : (test : Point → Bool) (p q : Point) (points : List Point)
    → list_any (has_end test) (edges_from p (q ∷ points)) ≡ list_any test (p ∷ q ∷ points)
ends_from test p q [] = end_once (test p) (test q)
ends_from test p q (r ∷ points) =
    ap (λ b. (test p || test q) || b) (ends_from test q r points)
    ∙ ends_chain (test p) (test q) (test r || list_any test points)

ends_between : (test : Point → Bool) (points : List Point) → 2 ≤ length points
    → list_any (has_end test) (edges_between points) ≡ list_any test points
ends_between test [] long = absurd (omega (arith, long))
ends_between test (p ∷ []) long = absurd (omega (arith, long))
ends_between test (p ∷ q ∷ points) long = ends_from test p q points

-- a list of lines, each of two points at least
abbrev AreLong : List (List Point) → Type 0
AreLong lines = list_any has_one_point lines ≡ false

ends_all : (test : Point → Bool) (lines : List (List Point)) → AreLong lines
    → list_any (has_end test) (edges_between_all lines) ≡ list_any test (joined lines)
ends_all test [] long = refl
ends_all test (line ∷ lines) long =
    let both : (has_one_point line ≡ false) × (list_any has_one_point lines ≡ false) =
    or_parts _ _ long in
    let two : 2 ≤ length line = ltb-false (length line) 2 both.0 in
    list_any-append (has_end test) (edges_between line) (edges_between_all lines)
    ∙ ap (λ b. b || list_any (has_end test) (edges_between_all lines)) (ends_between test line two)
    ∙ ap (λ b. list_any test line || b) (ends_all test lines both.1)
    ∙ sym (list_any-append test line (joined lines))

twice : (a : Bool) → (a || a) ≡ a
twice true = refl
twice false = refl

ends_lone : (test : Point → Bool) (points : List Point)
    → list_any (has_end test) (map lone_edge points) ≡ list_any test points
ends_lone test [] = refl
ends_lone test (p ∷ points) =
    ap (λ b. b || list_any (has_end test) (map lone_edge points)) (twice (test p))
    ∙ ap (λ b. test p || b) (ends_lone test points)

closed_long : (ring : List Point) → is_closed ring ≡ true → has_one_point ring ≡ false
closed_long [] closed = absurd (cc)
closed_long (p ∷ points) closed = let four : 4 ≤ length (p ∷ points) =
    leb-true 4 (length (p ∷ points)) (and_parts _ _ closed).0 in
    le-ltb (length (p ∷ points)) 2 (omega (arith, four))

rings_long : (rings : List (List Point)) → list_all is_closed rings ≡ true → AreLong rings
rings_long [] closed = refl
rings_long (ring ∷ rings) closed =
    let both : (is_closed ring ≡ true) × (list_all is_closed rings ≡ true) = and_parts _ _ closed in
    or_from _ _ (closed_long ring both.0) (rings_long rings both.1)

-- an end of an edge passes where a point of the geometry does
ends_of : (test : Point → Bool) (geometry : Geometry) → fault_of geometry ≡ None
    → list_any (has_end test) (edges_of geometry) ≡ list_any test (points_of geometry)
ends_of test (geo.Point p) kept = ends_lone test (p ∷ [])
ends_of test (geo.Line points) kept =
    let long : AreLong (points ∷ []) = no_short_line (geo.Line points) kept in
    ap (list_any (has_end test)) (append-nil (edges_between_all (points ∷ [])))
    ∙ ends_all test (points ∷ []) long ∙ ap (list_any test) (append-nil points)
ends_of test (geo.Area rings) kept =
    let closed : list_all is_closed (rings ++ []) ≡ true = all_closed (geo.Area rings) kept in
    ap (λ rs. list_any (has_end test) (edges_between_all rs)) (append-nil rings)
    ∙ ends_all test rings
    (rings_long rings (sym (ap (list_all is_closed) (append-nil rings)) ∙ closed))
ends_of test (geo.ManyPoints points) kept =
    ap (list_any (has_end test)) (append-nil (map lone_edge points)) ∙ ends_lone test points
ends_of test (geo.ManyLines lines) kept =
    ap (list_any (has_end test)) (append-nil (edges_between_all lines))
    ∙ ends_all test lines (no_short_line (geo.ManyLines lines) kept)
ends_of test (geo.ManyAreas areas) kept =
    ends_all test (joined areas) (rings_long (joined areas) (all_closed (geo.ManyAreas areas) kept))

pub ends_are_points : (test : Point → Bool) (geometry : Geometry) → fault_of geometry ≡ None
    → list_any (λ (e : Edge). test e.a || test e.b) (numbered_edges geometry)
    ≡ list_any test (points_of geometry)
ends_are_points test geometry kept =
    any_numbered (has_end test) geometry ∙ ends_of test geometry kept
