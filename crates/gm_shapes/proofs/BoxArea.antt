-- A closed box as a polygon: which points are in it, and what meets it.
use Rattle.std.proofs.Common.{◌≡◌, Bool, true, false, ◌&&◌, not, pos, ◌-ℤ◌, ◌*ℤ◌, ◌≤ℤ◌, ◌<ℤ◌, []}
use Rattle.std.proofs.Common.{◌∷◌, refl, sym, ap, ◌∙◌, arith}
use Rattle.std.proofs.Math.IntN.{zero-*ℤ, *ℤ-zero}
use Rattle.std.specs.Prelude.{int_le, int_lt}
use Rattle.std.specs.List.{count_by}
use Rattle.std.proofs.lemmas.Bool.{and_parts, and_from, or_left, or_right}
use Rattle.std.proofs.lemmas.Bool.Decides.{Decides-int_eq}
use Rattle.std.proofs.lemmas.Int.{ints, clamps}
use Rattle.gm_geom.specs.declared.point.Point.{Point}
use Rattle.gm_geom.specs.declared.point.Box2.{Box2}
use Rattle.gm_geom.specs.declared.geometry.Geometry.TheVariants as geo
use Rattle.gm_geom.specs.Geometry.{areas_of}
use Rattle.gm_geom.specs.Validity.{is_closed}
use Rattle.gm_geom.specs.Extent.{IsInBox, HoldsAll}
use Rattle.gm_shapes.specs.declared.segment.Segment.{Segment}
use Rattle.gm_shapes.specs.Segment.{segment, side_of, box_of, lone_box, reaches, do_overlap}
use Rattle.gm_shapes.specs.Segment.{is_beside, do_meet}
use Rattle.gm_shapes.specs.Edge.{lone_edge}
use Rattle.gm_shapes.specs.Polygon.{is_on_edge, is_around, is_in_polygon, is_odd, crosses}
use Rattle.gm_shapes.specs.Meeting.{is_in_any, has_edge_on, has_vertex_in, do_intersect, box_area}
use Rattle.gm_shapes.specs.Meeting.{box_ring, low_right, high_left}
use Rattle.gm_shapes.proofs.Boxes.{Reaches, reaches_in, reaches_out}
use Rattle.gm_shapes.proofs.Sides.{left_of, right_of}
use Rattle.gm_shapes.proofs.Bounding.{no_way, lone_side, upright_side, not_beside, on_left_edge}

level_side : (a b p : Point) → b.y ≡ a.y → p.y ≡ a.y → side_of a b p ≡ pos 0
level_side a b p eb ep =
    ap (λ y. (b.x -ℤ a.x) *ℤ (p.y -ℤ a.y) -ℤ (y -ℤ a.y) *ℤ (p.x -ℤ a.x)) eb
    ∙ ap (λ y. (b.x -ℤ a.x) *ℤ (y -ℤ a.y) -ℤ (a.y -ℤ a.y) *ℤ (p.x -ℤ a.x)) ep
    ∙ ap (λ z. (b.x -ℤ a.x) *ℤ z -ℤ z *ℤ (p.x -ℤ a.x)) (no_way a.y)
    ∙ ap (λ z. z -ℤ pos 0 *ℤ (p.x -ℤ a.x)) (*ℤ-zero (b.x -ℤ a.x))
    ∙ ap (λ z. pos 0 -ℤ z) (zero-*ℤ (p.x -ℤ a.x))

-- a point on the line of a segment and in its box meets it
on_line : (p : Point) (s : Segment) → IsInBox (box_of s) p → side_of s.start s.end p ≡ pos 0
    → do_meet (lone_edge p) s ≡ true
on_line p s at e =
    let one : reaches (box_of (lone_edge p)) (box_of s) ≡ true =
    reaches_in (box_of (lone_edge p)) (box_of s)
    (record {
      across = omega (arith, ints, clamps, at.right);
      along = omega (arith, ints, clamps, at.above);
    }) in
    let other : reaches (box_of s) (box_of (lone_edge p)) ≡ true =
    reaches_in (box_of s) (box_of (lone_edge p))
    (record {
      across = omega (arith, ints, clamps, at.left);
      along = omega (arith, ints, clamps, at.below);
    }) in
    let over : do_overlap (box_of (lone_edge p)) (box_of s) ≡ true = and_from _ _ one other in
    let point : not (is_beside (lone_edge p) s) ≡ true =
    not_beside (lone_edge p) s (lone_side p s.start) in
    let edge : not (is_beside s (lone_edge p)) ≡ true = not_beside s (lone_edge p) e in
    and_from (do_overlap (box_of (lone_edge p)) (box_of s))
    (not (is_beside (lone_edge p) s) && not (is_beside s (lone_edge p))) over
    (and_from (not (is_beside (lone_edge p) s)) (not (is_beside s (lone_edge p))) point edge)

abbrev right_edge : Box2 → Segment
right_edge box = segment (low_right box) box.high

abbrev high_edge : Box2 → Segment
high_edge box = segment box.high (high_left box)

abbrev low_edge : Box2 → Segment
low_edge box = segment box.low (low_right box)

abbrev left_edge : Box2 → Segment
left_edge box = segment (high_left box) box.low

on_right_edge : (box : Box2) (p : Point) → IsInBox box p → p.x ≡ box.high.x
    → do_meet (lone_edge p) (right_edge box) ≡ true
on_right_edge box p at e =
    let inside : IsInBox (box_of (right_edge box)) p = record {
      left = omega (arith, ints, clamps, e);
      right = omega (arith, ints, clamps, e);
      below = omega (arith, ints, clamps, at.below);
      above = omega (arith, ints, clamps, at.above);
    } in
    on_line p (right_edge box) inside (upright_side (low_right box) box.high p refl e)

on_high_edge : (box : Box2) (p : Point) → IsInBox box p → p.y ≡ box.high.y
    → do_meet (lone_edge p) (high_edge box) ≡ true
on_high_edge box p at e =
    let inside : IsInBox (box_of (high_edge box)) p = record {
      left = omega (arith, ints, clamps, at.left);
      right = omega (arith, ints, clamps, at.right);
      below = omega (arith, ints, clamps, e);
      above = omega (arith, ints, clamps, e);
    } in
    on_line p (high_edge box) inside (level_side box.high (high_left box) p refl e)

odd_four : (test : Segment → Bool) (a b c d : Segment) → test a ≡ false → test b ≡ true
    → test c ≡ false → test d ≡ false → is_odd (count_by test (a ∷ b ∷ c ∷ d ∷ [])) ≡ true
odd_four test a b c d ea eb ec ed = rw ea (rw eb (rw ec (rw ed refl)))

-- a point strictly inside crosses the right edge alone
around_box : (box : Box2) (p : Point) → IsInBox box p → box.low.x <ℤ p.x → p.x <ℤ box.high.x
    → p.y <ℤ box.high.y → is_around p (box_ring box ∷ []) ≡ true
around_box box p at left right high =
    let up : box.low.y <ℤ box.high.y = omega (arith, ints, high, at.below) in
    let rises : int_lt box.low.y box.high.y ≡ true = sym (omega (arith, ints, up)) in
    let falls : int_lt box.high.y box.low.y ≡ false = sym (omega (arith, ints, up)) in
    let low_level : int_lt box.low.y box.low.y ≡ false = sym (omega (arith, ints)) in
    let high_level : int_lt box.high.y box.high.y ≡ false = sym (omega (arith, ints)) in
    let over : int_le box.low.y p.y ≡ true = sym (omega (arith, ints, at.below)) in
    let under : int_lt p.y box.high.y ≡ true = sym (omega (arith, ints, high)) in
    let not_under : int_lt p.y box.low.y ≡ false = sym (omega (arith, ints, at.below)) in
    let not_over : int_le box.high.y p.y ≡ false = sym (omega (arith, ints, high)) in
    let on_left : int_lt (pos 0) (side_of (low_right box) box.high p) ≡ true =
    sym (omega (
      arith,
      ints,
      left_of box.high.x box.low.y box.high.x box.high.y p.x p.y at.below high right right,
    )) in
    let on_right : int_lt (pos 0) (side_of box.low (high_left box) p) ≡ false =
    sym (omega (
      arith,
      ints,
      right_of box.low.x box.low.y box.low.x box.high.y p.x p.y at.below high at.left at.left,
    )) in
    let a : crosses p (low_edge box) ≡ false = rw low_level (rw over (rw not_under refl)) in
    let b : crosses p (right_edge box) ≡ true = rw falls (rw over (rw under (rw on_left refl))) in
    let c : crosses p (high_edge box) ≡ false = rw high_level (rw not_over refl) in
    let d : crosses p (left_edge box) ≡ false = rw rises (rw over (rw under (rw on_right refl))) in
    odd_four (crosses p) (low_edge box) (right_edge box) (high_edge box) (left_edge box) a b c d

by_side : (box : Box2) (p : Point) (t u v : Bool) → int_le p.x box.low.x ≡ t
    → int_le box.high.x p.x ≡ u → int_le box.high.y p.y ≡ v → IsInBox box p
    → is_in_polygon p (box_ring box ∷ []) ≡ true
by_side box p true u v et eu ev at =
    let e : p.x ≡ box.low.x = omega (arith, ints, et, at.left) in
    or_left (is_on_edge p (box_ring box ∷ [])) (is_around p (box_ring box ∷ []))
    (or_right (do_meet (lone_edge p) (low_edge box)) _
    (or_right (do_meet (lone_edge p) (right_edge box)) _
    (or_right (do_meet (lone_edge p) (high_edge box)) _
    (or_left (do_meet (lone_edge p) (left_edge box)) _ (on_left_edge box p at e)))))
by_side box p false true v et eu ev at =
    let e : p.x ≡ box.high.x = omega (arith, ints, eu, at.right) in
    or_left (is_on_edge p (box_ring box ∷ [])) (is_around p (box_ring box ∷ []))
    (or_right (do_meet (lone_edge p) (low_edge box)) _
    (or_left (do_meet (lone_edge p) (right_edge box)) _ (on_right_edge box p at e)))
by_side box p false false true et eu ev at =
    let e : p.y ≡ box.high.y = omega (arith, ints, ev, at.above) in
    or_left (is_on_edge p (box_ring box ∷ [])) (is_around p (box_ring box ∷ []))
    (or_right (do_meet (lone_edge p) (low_edge box)) _
    (or_right (do_meet (lone_edge p) (right_edge box)) _
    (or_left (do_meet (lone_edge p) (high_edge box)) _ (on_high_edge box p at e))))
by_side box p false false false et eu ev at =
    let left : box.low.x <ℤ p.x = omega (arith, ints, et) in
    let right : p.x <ℤ box.high.x = omega (arith, ints, eu) in
    let high : p.y <ℤ box.high.y = omega (arith, ints, ev) in
    or_right (is_on_edge p (box_ring box ∷ [])) (is_around p (box_ring box ∷ []))
    (around_box box p at left right high)

-- a point of the closed box is in the polygon
pub in_polygon : (box : Box2) (p : Point) → IsInBox box p
    → is_in_polygon p (box_ring box ∷ []) ≡ true
in_polygon box p at =
    by_side box p (int_le p.x box.low.x) (int_le box.high.x p.x) (int_le box.high.y p.y)
    refl refl refl at

pub ring_closed : (box : Box2) → is_closed (box_ring box) ≡ true
ring_closed box =
    and_from _ _ ((Decides-int_eq box.low.x box.low.x).1 refl)
    ((Decides-int_eq box.low.y box.low.y).1 refl)

pub holds_corners : (box : Box2) → box.low.x ≤ℤ box.high.x → box.low.y ≤ℤ box.high.y
    → HoldsAll box (box_ring box)
holds_corners box across along =
    let none : box.low.x ≤ℤ box.low.x = omega (arith, ints) in
    let flat : box.low.y ≤ℤ box.low.y = omega (arith, ints) in
    let far : box.high.x ≤ℤ box.high.x = omega (arith, ints) in
    let top : box.high.y ≤ℤ box.high.y = omega (arith, ints) in
    let low : IsInBox box box.low =
    record { left = none; right = across; below = flat; above = along } in (
      low,
      (
        record { left = across; right = far; below = flat; above = along },
        (
          record { left = across; right = far; below = along; above = top },
          (
            record { left = none; right = across; below = along; above = top },
            (low, tt),
          ),
        ),
      ),
    )

-- a point of the closed box meets it
pub point_meets_box : (p : Point) (box : Box2) → IsInBox box p
    → do_intersect (geo.Point p) (box_area box) ≡ true
point_meets_box p box at =
    or_right (has_edge_on (geo.Point p) (box_area box)) _
    (or_left (has_vertex_in (geo.Point p) (box_area box))
    (has_vertex_in (box_area box) (geo.Point p))
    (or_left (is_in_any (areas_of (box_area box)) p) false
    (or_left (is_in_polygon p (box_ring box ∷ [])) false (in_polygon box p at))))

-- a box of one point that overlaps another box has its point there
pub in_box_by_overlap : (p : Point) (box : Box2) → do_overlap (lone_box p) box ≡ true
    → IsInBox box p
in_box_by_overlap p box e =
    let both : (reaches (lone_box p) box ≡ true) × (reaches box (lone_box p) ≡ true) =
    and_parts _ _ e in
    let under : Reaches (lone_box p) box = reaches_out (lone_box p) box both.0 in
    let over : Reaches box (lone_box p) = reaches_out box (lone_box p) both.1 in
    record { left = over.across; right = under.across; below = over.along; above = under.along }
