-- The byte ranges of a filter are few.
use Rattle.std.proofs.Common.{◌≡◌, ℕ, ◌≤◌, Bool, true, false, ◌||◌, List, [], ◌∷◌, length, refl}
use Rattle.std.proofs.Common.{Option, Some, None, cond, eqb, arith, subst}
use Rattle.std.proofs.lemmas.Bool.{leb-true}
use Rattle.std.specs.Prelude.{nat_le, option_to_list, pos, ◌+ℤ◌}
use Rattle.gm_lexi.specs.Ends.{after_of}
use Rattle.gm_lexi.specs.Lexicode.{date_bytes}
use Rattle.gm_types.specs.declared.kind.Kind.{Kind}
use Rattle.gm_types.specs.Specification.{Specification, kind_at}
use Rattle.gm_filter.specs.declared.filter.Op.{Op}
use Rattle.gm_filter.specs.declared.filter.Op.TheVariants.{Eq, Ne, Lt, Le, Gt, Ge}
use Rattle.gm_filter.specs.Like.{has_wildcard, plain_front}
use Rattle.gm_filter.specs.Tree.{Tree, Trees, include, exclude, negated, all, any, compare, between}
use Rattle.gm_filter.specs.Tree.{like, one_of, is_null, ids, bbox, intersects, disjoint, within}
use Rattle.gm_filter.specs.Tree.{during, before, after, tequals, no_trees, tree_and}
use Rattle.gm_bounds.specs.declared.bound.Bound.{Bound}
use Rattle.gm_bounds.specs.declared.bound.Bound.TheVariants.{World, Listed}
use Rattle.gm_bounds.specs.declared.byte_range.ByteRange.{ByteRange}
use Rattle.gm_bounds.specs.Bound.{Rules, bound_of, all_of, any_of, on}
use Rattle.gm_bounds.specs.ByteRange.{range, is_void, joined, met}
use Rattle.gm_bounds.specs.Values.{compared, compared_form, compared_none, lying_between}
use Rattle.gm_bounds.specs.Values.{literal_form, text_form, has_zero, is_blank, begun_by}
use Rattle.gm_bounds.specs.Values.{patterned, ranging, ranging_from, ranges_of, range_test}
use Rattle.gm_bounds.specs.Values.{range_rules, ranges_at, byte_ranges_of}
use Rattle.gm_bounds.specs.Lists.{kept, hull_of, capped, pairs, both, counted, single}
use Rattle.gm_bounds.proofs.InOrder.{Bytes}

-- a list of at most eight, or the world
abbrev IsFew : {X : Type 0} → Bound X → Type 0
IsFew World = Unit {0}
IsFew (Listed xs) = length xs ≤ 8

-- ---- lists

one_at_most : {X : Type 0} (o : Option X) → length (option_to_list o) ≤ 8
one_at_most None = omega arith
one_at_most (Some x) = omega arith

capped_where : {X : Type 0} (few : Bool) (xs : List X) (o : Option X) → (few ≡ true → length xs ≤ 8)
    → length (cond few xs (option_to_list o)) ≤ 8
capped_where true xs o h = h refl
capped_where false xs o h = one_at_most o

capped_few : {X : Type 0} (joined : X → X → X) (xs : List X) → length (capped joined xs) ≤ 8
capped_few joined xs =
    capped_where (nat_le (length xs) 8) xs (hull_of joined xs) (leb-true (length xs) 8)

single_where : {X : Type 0} (b : Bool) (x : X) → length (cond b [] (x ∷ [])) ≤ 8
single_where true x = omega arith
single_where false x = omega arith

single_few : {X : Type 0} (is_void : X → Bool) (x : X) → IsFew (single is_void x)
single_few is_void x = single_where (is_void x) x

both_few : {X : Type 0} (lists : List X → List X → List X)
    → ((xs ys : List X) → length (lists xs ys) ≤ 8) → (b c : Bound X) → IsFew b → IsFew c
    → IsFew (both lists b c)
both_few lists few World c h g = g
both_few lists few (Listed xs) World h g = h
both_few lists few (Listed xs) (Listed ys) h g = few xs ys

counted_few : {X : Type 0} (lists : List X → List X) → ((xs : List X) → length (lists xs) ≤ 8)
    → (b : Bound X) → IsFew (counted lists b)
counted_few lists few World = tt
counted_few lists few (Listed xs) = few xs

-- ---- the induction

record AreFew {X : Type 0} (r : Rules X) : Type 0 where
  tests : (t : Tree) → IsFew (r.test t)
  meets : (xs ys : List X) → length (r.met xs ys) ≤ 8
  counts : (xs : List X) → length (r.counted xs) ≤ 8

module _ {X : Type 0} (r : Rules X) (few : AreFew r) where
  mutual
    bound_few : (t : Tree) → IsFew (bound_of r t)
    bound_few include = tt
    bound_few exclude = omega arith
    bound_few (negated t) = tt
    bound_few (all ts) = all_few ts World tt
    bound_few (any ts) = counted_few r.counted few.counts (any_of r (Listed []) ts)
    bound_few (compare a op l) = few.tests (compare a op l)
    bound_few (between a low high) = few.tests (between a low high)
    bound_few (like a pattern) = few.tests (like a pattern)
    bound_few (one_of a literals) = few.tests (one_of a literals)
    bound_few (is_null a) = few.tests (is_null a)
    bound_few (ids texts) = few.tests (ids texts)
    bound_few (bbox a b) = few.tests (bbox a b)
    bound_few (intersects a g) = few.tests (intersects a g)
    bound_few (disjoint a g) = few.tests (disjoint a g)
    bound_few (within a g) = few.tests (within a g)
    bound_few (during a low high) = few.tests (during a low high)
    bound_few (before a at) = few.tests (before a at)
    bound_few (after a at) = few.tests (after a at)
    bound_few (tequals a at) = few.tests (tequals a at)

    all_few : (ts : Trees) (b : Bound X) → IsFew b → IsFew (all_of r b ts)
    all_few no_trees b h = h
    all_few (tree_and t ts) b h =
        all_few ts (both r.met b (bound_of r t))
        (both_few r.met few.meets b (bound_of r t) h (bound_few t))

-- ---- ranges

ranging_few : (low : Bytes) (high : Option Bytes) → IsFew (ranging low high)
ranging_few low high = single_few is_void (range low high)

from_few : (o : Option Bytes) → IsFew (ranging_from o)
from_few None = omega arith
from_few (Some low) = ranging_few low None

form_few : (op : Op) (form : Bytes) → IsFew (compared_form op form)
form_few Eq form = ranging_few form (after_of form)
form_few Ne form = tt
form_few Lt form = ranging_few [] (Some form)
form_few Le form = ranging_few [] (after_of form)
form_few Gt form = from_few (after_of form)
form_few Ge form = ranging_few form None

none_few : (op : Op) → IsFew (compared_none op)
none_few Eq = omega arith
none_few Ne = tt
none_few Lt = tt
none_few Le = tt
none_few Gt = tt
none_few Ge = tt

compared_few : (op : Op) (o : Option Bytes) → IsFew (compared op o)
compared_few op None = none_few op
compared_few op (Some form) = form_few op form

between_few : (o p : Option Bytes) → IsFew (lying_between o p)
between_few None p = tt
between_few (Some low) None = tt
between_few (Some low) (Some high) = ranging_few low (after_of high)

few_where : {X : Type 0} (c : Bool) (x y : Bound X) → IsFew x → IsFew y → IsFew (cond c x y)
few_where true x y h g = h
few_where false x y h g = g

patterned_few : (pattern : Bytes) → IsFew (patterned pattern)
patterned_few pattern =
    few_where (has_wildcard pattern) (begun_by pattern (plain_front pattern))
    (compared Eq (text_form pattern))
    (few_where (is_blank (plain_front pattern) || has_zero pattern) World
    (ranging (plain_front pattern) (after_of (plain_front pattern))) tt
    (ranging_few (plain_front pattern) (after_of (plain_front pattern))))
    (compared_few Eq (text_form pattern))

on_few : (a d : ℕ) (b : Bound ByteRange) → IsFew b → IsFew (on a d b)
on_few a d b h = few_where (eqb a d) b World h tt

test_few : (d : ℕ) (k : Kind) (t : Tree) → IsFew (range_test d k t)
test_few d k (compare a op l) = on_few a d _ (compared_few op (literal_form k l))
test_few d k (between a low high) =
    on_few a d _ (between_few (literal_form k low) (literal_form k high))
test_few d k (like a pattern) = on_few a d _ (patterned_few pattern)
test_few d k (one_of a literals) =
    on_few a d _ (capped_few joined (kept is_void (ranges_of k literals)))
test_few d k (during a low high) =
    on_few a d _ (ranging_few (date_bytes (low +ℤ pos 1)) (Some (date_bytes high)))
test_few d k (before a at) = on_few a d _ (form_few Lt (date_bytes at))
test_few d k (after a at) = on_few a d _ (form_few Gt (date_bytes at))
test_few d k (tequals a at) = on_few a d _ (form_few Eq (date_bytes at))
test_few d k _ = tt

ranges_few : (d : ℕ) (o : Option Kind) (t : Tree) → IsFew (ranges_at d o t)
ranges_few d None t = tt
ranges_few d (Some k) t = bound_few (range_rules d k) (record {
  tests = test_few d k;
  meets = λ xs ys. capped_few joined (pairs met is_void xs ys);
  counts = capped_few joined;
}) t

pub listed_few : (s : Specification) (t : Tree) (d : ℕ) (ranges : List ByteRange)
    → byte_ranges_of s d t ≡ Listed ranges → length ranges ≤ 8
listed_few s t d ranges e = subst IsFew e (ranges_few d (kind_at s d) t)
