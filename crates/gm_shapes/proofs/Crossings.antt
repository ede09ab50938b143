-- A point that an odd number of edges of closed rings surround lies in each box that holds the
-- rings.
use Rattle.std.proofs.Common.{◌≡◌, Bool, true, false, ℤ, pos, ◌≤ℤ◌, ◌<ℤ◌, List, [], ◌∷◌, refl, sym}
use Rattle.std.proofs.Common.{ap, ◌∙◌, arith}
use Rattle.std.specs.Prelude.{int_lt, int_le}
use Rattle.std.specs.List.{list_all, AllByRecursion, count_by}
use Rattle.std.proofs.lemmas.Bool.{and_parts}
use Rattle.std.proofs.lemmas.Bool.Decides.{Decides-int_eq}
use Rattle.std.proofs.lemmas.Int.{ints, by_lt_z}
use Rattle.gm_geom.specs.declared.point.Point.{Point}
use Rattle.gm_geom.specs.declared.point.Box2.{Box2}
use Rattle.gm_geom.specs.Extent.{IsInBox}
use Rattle.gm_geom.specs.Validity.{is_closed, is_same, last_after}
use Rattle.gm_shapes.specs.declared.segment.Segment.{Segment}
use Rattle.gm_shapes.specs.Segment.{segment, side_of}
use Rattle.gm_shapes.specs.Edge.{IsEdgeIn, edges_from, edges_between, edges_between_all}
use Rattle.gm_shapes.specs.Polygon.{is_level, crosses_up, crosses, is_odd, is_around}
use Rattle.gm_shapes.proofs.Walks.{xor, odd_count-cons, odd_count-append}
use Rattle.gm_shapes.proofs.Found.{Passing, found, odd_found, all_map, all_front, all_back}
use Rattle.gm_shapes.proofs.Boxes.{HoldsEdges}
use Rattle.gm_shapes.proofs.Sides.{left_of, right_of}

-- the point is higher than y
abbrev above : ℤ → Point → Bool
above y q = int_lt y q.y

record IsRightOf (p : Point) (s : Segment) : Type 0 where
  start_right : p.x <ℤ s.start.x
  end_right : p.x <ℤ s.end.x

-- right of p an edge that goes up is crossed where its ends are on two sides of the height of p
up_right : (p a b : Point) (t u : Bool) → int_le a.y p.y ≡ t → int_lt p.y b.y ≡ u → p.x <ℤ a.x
    → p.x <ℤ b.x → a.y ≤ℤ b.y → crosses_up p a b ≡ xor (above p.y a) (above p.y b)
up_right p a b false u et eu ha hb up =
    let low : above p.y a ≡ true = sym (omega (arith, ints, et)) in
    let high : above p.y b ≡ true = sym (omega (arith, ints, et, up)) in
    rw et (rw low (rw high refl))
up_right p a b true false et eu ha hb up =
    let low : above p.y a ≡ false = sym (omega (arith, ints, et)) in
    rw et (rw eu (rw low refl))
up_right p a b true true et eu ha hb up =
    let low : above p.y a ≡ false = sym (omega (arith, ints, et)) in
    let from : a.y ≤ℤ p.y = omega (arith, ints, et) in
    let to : p.y <ℤ b.y = omega (arith, ints, eu) in
    let side : int_lt (pos 0) (side_of a b p) ≡ true =
    sym (omega (arith, ints, left_of a.x a.y b.x b.y p.x p.y from to ha hb)) in
    rw et (rw eu (rw low (rw side refl)))

xor_comm : (a b : Bool) → xor a b ≡ xor b a
xor_comm true true = refl
xor_comm true false = refl
xor_comm false true = refl
xor_comm false false = refl

xor_same : (a : Bool) → xor a a ≡ false
xor_same true = refl
xor_same false = refl

xor_chain : (a b c : Bool) → xor (xor a b) (xor b c) ≡ xor a c
xor_chain true true c = refl
xor_chain true false true = refl
xor_chain true false false = refl
xor_chain false true true = refl
xor_chain false true false = refl
xor_chain false false c = refl

either_way : (p : Point) (s : Segment) (t : Bool) → int_lt s.end.y s.start.y ≡ t → IsRightOf p s
    → crosses p s ≡ xor (above p.y s.start) (above p.y s.end)
either_way p s true e h =
    let up : s.end.y ≤ℤ s.start.y = omega (arith, ints, e) in
    rw e (up_right p s.end s.start (int_le s.end.y p.y) (int_lt p.y s.start.y) refl refl h.end_right
    h.start_right up ∙ xor_comm (above p.y s.end) (above p.y s.start))
either_way p s false e h =
    let up : s.start.y ≤ℤ s.end.y = omega (arith, ints, e) in
    rw e (up_right p s.start s.end (int_le s.start.y p.y) (int_lt p.y s.end.y) refl refl
    h.start_right h.end_right up)

-- the crossings of a way right of p are odd where its ends are on two sides
odd_right : (p q : Point) (points : List Point) → AllByRecursion (IsRightOf p) (edges_from q points)
    → is_odd (count_by (crosses p) (edges_from q points))
    ≡ xor (above p.y q) (above p.y (last_after q points))
odd_right p q [] all = sym (xor_same (above p.y q))
odd_right p q (r ∷ points) all =
    odd_count-cons (crosses p) (segment q r) (edges_from r points)
    ∙ ap (λ b. xor b (is_odd (count_by (crosses p) (edges_from r points))))
    (either_way p (segment q r) (int_lt r.y q.y) refl all.0)
    ∙ ap (λ b. xor (xor (above p.y q) (above p.y r)) b) (odd_right p r points all.1)
    ∙ xor_chain (above p.y q) (above p.y r) (above p.y (last_after r points))

ring_right : (p : Point) (ring : List Point) → is_closed ring ≡ true
    → AllByRecursion (IsRightOf p) (edges_between ring)
    → is_odd (count_by (crosses p) (edges_between ring)) ≡ false
ring_right p [] closed all = absurd (cc)
ring_right p (q ∷ points) closed all =
    let same : is_same q (last_after q points) ≡ true = (and_parts _ _ closed).1 in
    let level : q.y ≡ (last_after q points).y = (Decides-int_eq _ _).0 (and_parts _ _ same).1 in
    odd_right p q points all ∙ ap (λ y. xor (above p.y q) (int_lt p.y y)) (sym level)
    ∙ xor_same (above p.y q)

rings_right : (p : Point) (rings : List (List Point)) → list_all is_closed rings ≡ true
    → AllByRecursion (IsRightOf p) (edges_between_all rings) → is_around p rings ≡ false
rings_right p [] closed all = refl
rings_right p (ring ∷ rings) closed all =
    let both : (is_closed ring ≡ true) × (list_all is_closed rings ≡ true) = and_parts _ _ closed in
    odd_count-append (crosses p) (edges_between ring) (edges_between_all rings)
    ∙ ap (λ b. xor b (is_around p rings))
    (ring_right p ring both.0
    (all_front (IsRightOf p) (edges_between ring) (edges_between_all rings) all))
    ∙ rings_right p rings both.1
    (all_back (IsRightOf p) (edges_between ring) (edges_between_all rings) all)

-- where the box has an edge that p crosses
record IsBefore (box : Box2) (p : Point) : Type 0 where
  right : p.x ≤ℤ box.high.x
  below : box.low.y ≤ℤ p.y
  above_it : p.y ≤ℤ box.high.y

crossed_up : (box : Box2) (p a b : Point) → crosses_up p a b ≡ true → IsInBox box a → IsInBox box b
    → IsBefore box p
crossed_up box p a b e ha hb =
    let both : (is_level p a b ≡ true) × (int_lt (pos 0) (side_of a b p) ≡ true) =
    and_parts _ _ e in
    let level : (int_le a.y p.y ≡ true) × (int_lt p.y b.y ≡ true) = and_parts _ _ both.0 in
    let from : a.y ≤ℤ p.y = omega (arith, ints, level.0) in
    let to : p.y <ℤ b.y = omega (arith, ints, level.1) in
    let under : box.low.y ≤ℤ p.y = omega (arith, ints, from, ha.below) in
    let over : p.y ≤ℤ box.high.y = omega (arith, ints, to, hb.above) in
    by_lt_z box.high.x p.x
    (λ past.
    let pa : a.x ≤ℤ p.x = omega (arith, ints, past, ha.right) in
    let pb : b.x ≤ℤ p.x = omega (arith, ints, past, hb.right) in
    absurd (omega (arith, ints, both.1, right_of a.x a.y b.x b.y p.x p.y from to pa pb)))
    (λ in_time. record { right = in_time; below = under; above_it = over })

crossed : (box : Box2) (p : Point) (s : Segment) (t : Bool) → int_lt s.end.y s.start.y ≡ t
    → crosses p s ≡ true → IsEdgeIn box s → IsBefore box p
crossed box p s true at e h = let f : crosses_up p s.end s.start ≡ true = rw at at e in
    crossed_up box p s.end s.start f h.end_in h.start_in
crossed box p s false at e h = let f : crosses_up p s.start s.end ≡ true = rw at at e in
    crossed_up box p s.start s.end f h.start_in h.end_in

pub around_in_box : (box : Box2) (p : Point) (rings : List (List Point))
    → HoldsEdges box (edges_between_all rings) → list_all is_closed rings ≡ true
    → is_around p rings ≡ true → IsInBox box p
around_in_box box p rings held closed e =
    let at : Passing (crosses p) (IsEdgeIn box) =
    found (crosses p) (IsEdgeIn box) (edges_between_all rings)
    (odd_found (crosses p) (edges_between_all rings) e) held in
    let before : IsBefore box p =
    crossed box p at.0 (int_lt at.0.end.y at.0.start.y) refl at.1 at.2 in
    by_lt_z p.x box.low.x
    (λ left.
    let all : AllByRecursion (IsRightOf p) (edges_between_all rings) =
    all_map (IsEdgeIn box) (IsRightOf p) (edges_between_all rings)
    (λ s h. record {
      start_right = omega (arith, ints, left, h.start_in.left);
      end_right = omega (arith, ints, left, h.end_in.left);
    }) held in
    let none : is_around p rings ≡ false = rings_right p rings closed all in
    absurd (cc))
    (λ inside. record
    { left = inside; right = before.right; below = before.below; above = before.above_it })
