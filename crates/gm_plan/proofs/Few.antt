-- A bound that is a list has at most eight members.
use Rattle.std.proofs.Common.{◌≡◌, ℕ, ◌≤◌, Bool, true, false, List, [], ◌∷◌, length, refl, Option}
use Rattle.std.proofs.Common.{Some, None, arith}
use Rattle.std.specs.Prelude.{ℤ, pos, ◌+ℤ◌, ◌-ℤ◌, nat_le, nat_eq, if◌then◌else◌, option_to_list}
use Rattle.std.proofs.lemmas.Bool.{leb-true}
use Rattle.gm_geom.specs.declared.point.Box2.{Box2}
use Rattle.gm_geom.specs.Extent.{extent_of}
use Rattle.gm_geom.specs.Geometry.{points_of}
use Rattle.gm_types.specs.Specification.{Specification, default_geometry_of, default_date_of}
use Rattle.gm_types.specs.Specification.{default_shape_of}
use Rattle.gm_types.specs.Index.{is_point_shape}
use Rattle.gm_filter.specs.declared.filter.Op.{Op}
use Rattle.gm_filter.specs.declared.filter.Op.TheVariants.{Eq, Ne, Lt, Le, Gt, Ge}
use Rattle.gm_filter.specs.declared.filter.Literal.{Literal}
use Rattle.gm_filter.specs.declared.filter.Literal.TheVariants as literal
use Rattle.gm_filter.specs.Tree.{Tree, Trees, include, exclude, negated, all, any, compare, between}
use Rattle.gm_filter.specs.Tree.{like, one_of, is_null, ids, bbox, intersects, disjoint, within}
use Rattle.gm_filter.specs.Tree.{during, before, after, tequals, no_trees, tree_and}
use Rattle.gm_bounds.specs.declared.bound.Bound.{Bound}
use Rattle.gm_bounds.specs.declared.bound.Bound.TheVariants.{World, Listed}
use Rattle.gm_bounds.specs.Bound.{Rules, bound_of, all_of, any_of, on}
use Rattle.gm_bounds.specs.Lists.{kept, capped, hull_of, both, counted, single, listed, meeting}
use Rattle.gm_bounds.specs.Lists.{pairs}
use Rattle.gm_bounds.specs.Space.{boxes_of, boxes_at, box_rules, box_test, box_of, box_of_extent}
use Rattle.gm_bounds.specs.Time.{intervals_of, intervals_at, interval_rules, interval_test}
use Rattle.gm_bounds.specs.Time.{lasting, dated, compared, lying_between, instants_of}
use Rattle.gm_bounds.specs.ClosedBox as box
use Rattle.gm_bounds.specs.Interval as interval

abbrev pub IsFew : {X : Type 0} → Bound X → Type 0
IsFew World = Unit {0}
IsFew (Listed xs) = length xs ≤ 8

pub record HasFew {X : Type 0} (r : Rules X) : Type 0 where
  pub test : (t : Tree) → IsFew (r.test t)
  pub met : (xs ys : List X) → length xs ≤ 8 → length ys ≤ 8 → length (r.met xs ys) ≤ 8
  pub counted : (xs : List X) → length (r.counted xs) ≤ 8

few_both : {X : Type 0} (r : Rules X) → HasFew r → (a b : Bound X) → IsFew a → IsFew b
    → IsFew (both r.met a b)
few_both r h World b p q = q
few_both r h (Listed xs) World p q = p
few_both r h (Listed xs) (Listed ys) p q = h.met xs ys p q

few_counted : {X : Type 0} (r : Rules X) → HasFew r → (b : Bound X) → IsFew (counted r.counted b)
few_counted r h World = tt
few_counted r h (Listed xs) = h.counted xs

mutual
  pub few : {X : Type 0} (r : Rules X) → HasFew r → (t : Tree) → IsFew (bound_of r t)
  few r h include = tt
  few r h exclude = omega arith
  few r h (negated t) = tt
  few r h (all ts) = few_all r h World tt ts
  few r h (any ts) = few_counted r h (any_of r (Listed []) ts)
  few r h (compare a op l) = h.test (compare a op l)
  few r h (between a low high) = h.test (between a low high)
  few r h (like a pattern) = h.test (like a pattern)
  few r h (one_of a literals) = h.test (one_of a literals)
  few r h (is_null a) = h.test (is_null a)
  few r h (ids texts) = h.test (ids texts)
  few r h (bbox a b) = h.test (bbox a b)
  few r h (intersects a g) = h.test (intersects a g)
  few r h (disjoint a g) = h.test (disjoint a g)
  few r h (within a g) = h.test (within a g)
  few r h (during a low high) = h.test (during a low high)
  few r h (before a at) = h.test (before a at)
  few r h (after a at) = h.test (after a at)
  few r h (tequals a at) = h.test (tequals a at)

  few_all : {X : Type 0} (r : Rules X) → HasFew r → (found : Bound X) → IsFew found → (ts : Trees)
      → IsFew (all_of r found ts)
  few_all r h found p no_trees = p
  few_all r h found p (tree_and t ts) =
      few_all r h (both r.met found (bound_of r t))
      (few_both r h found (bound_of r t) p (few r h t)) ts

-- ---- the lists of tests, and of what is counted
if_few : {X : Type 0} (xs : List X) (o : Option X) (b : Bool) → nat_le (length xs) 8 ≡ b
    → length (if b then xs else option_to_list o) ≤ 8
if_few xs o true e = leb-true (length xs) 8 e
if_few xs None false e = omega arith
if_few xs (Some x) false e = omega arith

pub capped_few : {X : Type 0} (joined : X → X → X) (xs : List X) → length (capped joined xs) ≤ 8
capped_few joined xs = if_few xs (hull_of joined xs) (nat_le (length xs) 8) refl

single_by : {X : Type 0} (x : X) (b : Bool) → length (if b then [] else x ∷ []) ≤ 8
single_by x true = omega arith
single_by x false = omega arith

single_few : {X : Type 0} (is_void : X → Bool) (x : X) → IsFew (single is_void x)
single_few is_void x = single_by x (is_void x)

on_by : {X : Type 0} (b : Bool) (bound : Bound X) → IsFew bound → IsFew (if b then bound else World)
on_by true bound h = h
on_by false bound h = tt

on_few : {X : Type 0} (a d : ℕ) (bound : Bound X) → IsFew bound → IsFew (on a d bound)
on_few a d bound h = on_by (nat_eq a d) bound h

meeting_by : {X : Type 0} (b : Bool) (joined : X → X → X) (xs zs : List X) → length xs ≤ 8
    → length (if b then capped joined zs else xs) ≤ 8
meeting_by true joined xs zs h = capped_few joined zs
meeting_by false joined xs zs h = h

meeting_few : {X : Type 0} (b : Bool) (met : X → X → X) (is_void : X → Bool) (joined : X → X → X)
    (xs ys : List X) → length xs ≤ 8 → length (meeting b met is_void joined xs ys) ≤ 8
meeting_few b met is_void joined xs ys h = meeting_by b joined xs (pairs met is_void xs ys) h

-- ---- boxes
box_of_few : (o : Option Box2) → IsFew (box_of_extent o)
box_of_few None = omega arith
box_of_few (Some extent) = single_few box.is_void extent

box_test_few : (d : ℕ) (t : Tree) → IsFew (box_test d t)
box_test_few d include = tt
box_test_few d exclude = tt
box_test_few d (negated t) = tt
box_test_few d (all ts) = tt
box_test_few d (any ts) = tt
box_test_few d (compare a op l) = tt
box_test_few d (between a low high) = tt
box_test_few d (like a pattern) = tt
box_test_few d (one_of a literals) = tt
box_test_few d (is_null a) = tt
box_test_few d (ids texts) = tt
box_test_few d (bbox a b) = on_few a d (single box.is_void b) (single_few box.is_void b)
box_test_few d (intersects a g) = on_few a d (box_of g) (box_of_few (extent_of (points_of g)))
box_test_few d (disjoint a g) = tt
box_test_few d (within a g) = on_few a d (box_of g) (box_of_few (extent_of (points_of g)))
box_test_few d (during a low high) = tt
box_test_few d (before a at) = tt
box_test_few d (after a at) = tt
box_test_few d (tequals a at) = tt

few_boxes_at : (o : Option ℕ) (p : Bool) (t : Tree) → IsFew (boxes_at o p t)
few_boxes_at None p t = tt
few_boxes_at (Some d) p t = few (box_rules d p) (record {
  test = box_test_few d;
  met = λ xs ys h k. meeting_few p box.met box.is_void box.joined xs ys h;
  counted = capped_few box.joined;
}) t

pub few_boxes : (s : Specification) (t : Tree) → IsFew (boxes_of s t)
few_boxes s t = few_boxes_at (default_geometry_of s) (is_point_shape (default_shape_of s)) t

-- ---- intervals
lasting_few : (low high : Option ℤ) → IsFew (lasting low high)
lasting_few low high = single_few interval.is_void (interval.interval low high)

dated_few : (op : Op) (at : ℤ) → IsFew (dated op at)
dated_few Eq at = lasting_few (Some at) (Some at)
dated_few Ne at = tt
dated_few Lt at = lasting_few None (Some (at -ℤ pos 1))
dated_few Le at = lasting_few None (Some at)
dated_few Gt at = lasting_few (Some (at +ℤ pos 1)) None
dated_few Ge at = lasting_few (Some at) None

compared_few : (op : Op) (l : Literal) → IsFew (compared op l)
compared_few op (literal.Date at) = dated_few op at
compared_few op (literal.Number n) = tt
compared_few op (literal.Text t) = tt
compared_few op (literal.Truth b) = tt

between_few : (low high : Literal) → IsFew (lying_between low high)
between_few (literal.Date low) (literal.Date high) = lasting_few (Some low) (Some high)
between_few (literal.Date low) (literal.Number n) = tt
between_few (literal.Date low) (literal.Text t) = tt
between_few (literal.Date low) (literal.Truth b) = tt
between_few (literal.Number n) high = tt
between_few (literal.Text t) high = tt
between_few (literal.Truth b) high = tt

interval_test_few : (d : ℕ) (t : Tree) → IsFew (interval_test d t)
interval_test_few d include = tt
interval_test_few d exclude = tt
interval_test_few d (negated t) = tt
interval_test_few d (all ts) = tt
interval_test_few d (any ts) = tt
interval_test_few d (compare a op l) = on_few a d (compared op l) (compared_few op l)
interval_test_few d (between a low high) =
    on_few a d (lying_between low high) (between_few low high)
interval_test_few d (like a pattern) = tt
interval_test_few d (one_of a literals) =
    on_few a d (listed interval.is_void interval.joined (instants_of literals))
    (capped_few interval.joined (kept interval.is_void (instants_of literals)))
interval_test_few d (is_null a) = tt
interval_test_few d (ids texts) = tt
interval_test_few d (bbox a b) = tt
interval_test_few d (intersects a g) = tt
interval_test_few d (disjoint a g) = tt
interval_test_few d (within a g) = tt
interval_test_few d (during a low high) =
    on_few a d (lasting (Some (low +ℤ pos 1)) (Some (high -ℤ pos 1)))
    (lasting_few (Some (low +ℤ pos 1)) (Some (high -ℤ pos 1)))
interval_test_few d (before a at) = on_few a d (dated Lt at) (dated_few Lt at)
interval_test_few d (after a at) = on_few a d (dated Gt at) (dated_few Gt at)
interval_test_few d (tequals a at) = on_few a d (dated Eq at) (dated_few Eq at)

few_intervals_at : (o : Option ℕ) (t : Tree) → IsFew (intervals_at o t)
few_intervals_at None t = tt
few_intervals_at (Some d) t = few (interval_rules d) (record {
  test = interval_test_few d;
  met = λ xs ys h k. meeting_few true interval.met interval.is_void interval.joined xs ys h;
  counted = capped_few interval.joined;
}) t

pub few_intervals : (s : Specification) (t : Tree) → IsFew (intervals_of s t)
few_intervals s t = few_intervals_at (default_date_of s) t
