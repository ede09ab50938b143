-- A point within a geometry meets it, and a geometry meets its least box.
use Rattle.std.proofs.Common.{◌≡◌, Bool, true, false, ◌&&◌, ◌||◌, not, ℤ, pos, ◌+ℤ◌, ◌-ℤ◌, ◌*ℤ◌}
use Rattle.std.proofs.Common.{List, [], ◌∷◌, refl, ap, ◌∙◌, arith}
use Rattle.std.proofs.Math.IntN.{zero-*ℤ, *ℤ-zero}
use Rattle.std.specs.Prelude.{int_le}
use Rattle.std.specs.List.{list_any, AllByRecursion}
use Rattle.std.proofs.lemmas.Bool.{and_parts, and_from, or_left, or_right, or_parts}
use Rattle.std.proofs.lemmas.Int.{ints, clamps}
use Rattle.gm_geom.specs.declared.point.Point.{Point}
use Rattle.gm_geom.specs.declared.point.Box2.{Box2}
use Rattle.gm_geom.specs.declared.geometry.Geometry.{Geometry}
use Rattle.gm_geom.specs.declared.geometry.Geometry.TheVariants as geo
use Rattle.gm_geom.specs.Geometry.{points_of, areas_of}
use Rattle.gm_geom.specs.Extent.{IsInBox, IsBoxInside, HoldsAll, IsLeastBox}
use Rattle.gm_shapes.specs.declared.segment.Segment.{Segment}
use Rattle.gm_shapes.specs.Segment.{segment, side_of, box_of, reaches, do_overlap, are_of_one_sign}
use Rattle.gm_shapes.specs.Segment.{is_beside, do_meet}
use Rattle.gm_shapes.specs.Edge.{lone_edge}
use Rattle.gm_shapes.specs.Polygon.{is_on_edge, is_around, is_in_polygon}
use Rattle.gm_shapes.specs.Meeting.{is_in_any, has_edge_on, has_vertex_in, do_intersect, is_inside}
use Rattle.gm_shapes.specs.Meeting.{is_within, box_area, box_ring, low_right, high_left}
use Rattle.gm_shapes.proofs.Boxes.{reaches_in}

more_first : (b c later last : Bool) → (b || later) ≡ true → (b ≡ true → c ≡ true)
    → (later ≡ true → last ≡ true) → (c || last) ≡ true
more_first true c later last e here rest = or_left c last (here refl)
more_first false c later last e here rest = or_right c last (rest e)

-- what passes the one test, of the elements with P, passes the other
any_more : {X : Type 0} (test other : X → Bool) (P : X → Type 0) (xs : List X)
    → ((x : X) → P x → test x ≡ true → other x ≡ true) → AllByRecursion P xs
    → list_any test xs ≡ true → list_any other xs ≡ true
any_more test other P [] f all e = absurd (cc)
any_more test other P (x ∷ xs) f all e =
    more_first (test x) (other x) (list_any test xs) (list_any other xs) e (f x all.0)
    (any_more test other P xs f all.1)

every : {X : Type 0} (xs : List X) → AllByRecursion (λ x. Unit {0}) xs
every [] = tt
every (x ∷ xs) = (tt, every xs)

pub within_meets : (p : Point) (area : Geometry) → is_within p area ≡ true
    → do_intersect (geo.Point p) area ≡ true
within_meets p area e =
    let in_one : is_in_any (areas_of area) p ≡ true =
    any_more (is_inside p) (is_in_polygon p) (λ rings. Unit {0}) (areas_of area)
    (λ rings _ h. (and_parts _ _ h).0) (every (areas_of area)) e in
    or_right (has_edge_on (geo.Point p) area) _
    (or_left _ (has_vertex_in area (geo.Point p))
    (or_left (is_in_any (areas_of area) p) false in_one))

-- a segment without length has each point on its line, and an upright one has those as far right
pub no_way : (a : ℤ) → a -ℤ a ≡ pos 0
no_way a = omega (arith, ints)

pub lone_side : (p q : Point) → side_of p p q ≡ pos 0
lone_side p q =
    ap (λ z. z *ℤ (q.y -ℤ p.y) -ℤ (p.y -ℤ p.y) *ℤ (q.x -ℤ p.x)) (no_way p.x)
    ∙ ap (λ z. pos 0 *ℤ (q.y -ℤ p.y) -ℤ z *ℤ (q.x -ℤ p.x)) (no_way p.y)
    ∙ ap (λ z. z -ℤ pos 0 *ℤ (q.x -ℤ p.x)) (zero-*ℤ (q.y -ℤ p.y))
    ∙ ap (λ z. pos 0 -ℤ z) (zero-*ℤ (q.x -ℤ p.x))

pub upright_side : (a b p : Point) → b.x ≡ a.x → p.x ≡ a.x → side_of a b p ≡ pos 0
upright_side a b p eb ep =
    ap (λ x. (x -ℤ a.x) *ℤ (p.y -ℤ a.y) -ℤ (b.y -ℤ a.y) *ℤ (p.x -ℤ a.x)) eb
    ∙ ap (λ x. (a.x -ℤ a.x) *ℤ (p.y -ℤ a.y) -ℤ (b.y -ℤ a.y) *ℤ (x -ℤ a.x)) ep
    ∙ ap (λ z. z *ℤ (p.y -ℤ a.y) -ℤ (b.y -ℤ a.y) *ℤ z) (no_way a.x)
    ∙ ap (λ z. z -ℤ (b.y -ℤ a.y) *ℤ pos 0) (zero-*ℤ (p.y -ℤ a.y))
    ∙ ap (λ z. pos 0 -ℤ z) (*ℤ-zero (b.y -ℤ a.y))

pub not_beside : (s t : Segment) → side_of s.start s.end t.start ≡ pos 0
    → not (is_beside s t) ≡ true
not_beside s t e = ap (λ z. not (are_of_one_sign z (side_of s.start s.end t.end))) e

abbrev left_edge : Box2 → Segment
left_edge box = segment (high_left box) box.low

pub on_left_edge : (box : Box2) (p : Point) → IsInBox box p → p.x ≡ box.low.x
    → do_meet (lone_edge p) (left_edge box) ≡ true
on_left_edge box p at e =
    let one : reaches (box_of (lone_edge p)) (box_of (left_edge box)) ≡ true =
    reaches_in (box_of (lone_edge p)) (box_of (left_edge box))
    (record {
      across = omega (arith, ints, clamps, e);
      along = omega (arith, ints, clamps, at.above);
    }) in
    let other : reaches (box_of (left_edge box)) (box_of (lone_edge p)) ≡ true =
    reaches_in (box_of (left_edge box)) (box_of (lone_edge p))
    (record {
      across = omega (arith, ints, clamps, e);
      along = omega (arith, ints, clamps, at.below);
    }) in
    let over : do_overlap (box_of (lone_edge p)) (box_of (left_edge box)) ≡ true =
    and_from _ _ one other in
    let point : not (is_beside (lone_edge p) (left_edge box)) ≡ true =
    not_beside (lone_edge p) (left_edge box) (lone_side p (high_left box)) in
    let edge : not (is_beside (left_edge box) (lone_edge p)) ≡ true =
    not_beside (left_edge box) (lone_edge p) (upright_side (high_left box) box.low p refl e) in
    and_from (do_overlap (box_of (lone_edge p)) (box_of (left_edge box)))
    (not (is_beside (lone_edge p) (left_edge box))
    && not (is_beside (left_edge box) (lone_edge p))) over
    (and_from (not (is_beside (lone_edge p) (left_edge box)))
    (not (is_beside (left_edge box) (lone_edge p))) point edge)

in_box_area : (box : Box2) (p : Point) → IsInBox box p → int_le p.x box.low.x ≡ true
    → is_in_any (areas_of (box_area box)) p ≡ true
in_box_area box p at low =
    let e : p.x ≡ box.low.x = omega (arith, ints, low, at.left) in
    let on : is_on_edge p (box_ring box ∷ []) ≡ true =
    or_right (do_meet (lone_edge p) (segment box.low (low_right box))) _
    (or_right (do_meet (lone_edge p) (segment (low_right box) box.high)) _
    (or_right (do_meet (lone_edge p) (segment box.high (high_left box))) _
    (or_left (do_meet (lone_edge p) (left_edge box)) _ (on_left_edge box p at e)))) in
    or_left (is_in_polygon p (box_ring box ∷ [])) false
    (or_left (is_on_edge p (box_ring box ∷ [])) (is_around p (box_ring box ∷ [])) on)

-- the box without its left side
abbrev narrowed : Box2 → Box2
narrowed box = record { low = record { x = box.low.x +ℤ pos 1; y = box.low.y }; high = box.high }

holds_narrowed : (box : Box2) (points : List Point)
    → list_any (λ p. int_le p.x box.low.x) points ≡ false → HoldsAll box points
    → HoldsAll (narrowed box) points
holds_narrowed box [] e all = tt
holds_narrowed box (p ∷ points) e all =
    let both : (int_le p.x box.low.x ≡ false)
    × (list_any (λ p. int_le p.x box.low.x) points ≡ false) = or_parts _ _ e in (
      record {
        left = omega (arith, ints, both.0);
        right = all.0.right;
        below = all.0.below;
        above = all.0.above;
      },
      holds_narrowed box points both.1 all.1,
    )

-- a point lies on the left side of the least box
on_left_side : (box : Box2) (points : List Point) (b : Bool)
    → list_any (λ p. int_le p.x box.low.x) points ≡ b → IsLeastBox box points → b ≡ true
on_left_side box points true e least = refl
on_left_side box points false e least =
    let inside : IsBoxInside (narrowed box) box =
    least.least (narrowed box) (holds_narrowed box points e least.holds) in
    absurd (omega (arith, ints, inside.left))

pub meets_box : (geometry : Geometry) (box : Box2) → IsLeastBox box (points_of geometry)
    → do_intersect geometry (box_area box) ≡ true
meets_box geometry box least =
    let some : list_any (λ p. int_le p.x box.low.x) (points_of geometry) ≡ true =
    on_left_side box (points_of geometry)
    (list_any (λ p. int_le p.x box.low.x) (points_of geometry)) refl least in
    let corner : has_vertex_in geometry (box_area box) ≡ true =
    any_more (λ p. int_le p.x box.low.x) (is_in_any (areas_of (box_area box))) (IsInBox box)
    (points_of geometry) (in_box_area box) least.holds some in
    or_right (has_edge_on geometry (box_area box)) _
    (or_left (has_vertex_in geometry (box_area box))
    (has_vertex_in (box_area box) geometry) corner)
