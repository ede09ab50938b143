-- In each byte range of a filter something lies; so the spans of values share no key.
use Rattle.std.proofs.Common.{◌≡◌, ℕ, Bool, true, false, List, [], ◌∷◌, ◌++◌, length, refl}
use Rattle.std.proofs.Common.{Option, Some, None}
use Rattle.std.specs.Prelude.{pos, ◌+ℤ◌, ◌||◌, if◌then◌else◌, nat_eq, nat_le, fold, option_to_list}
use Rattle.std.specs.List.{flat_map, range_with_len}
use Rattle.std.specs.Ordering.{nat_cmp}
use Rattle.std.specs.Cmp.Lexicographic.{slice_cmp}
use Rattle.gm_base.proofs.Lists.{all_append}
use Rattle.gm_types.specs.declared.kind.Kind.{Kind}
use Rattle.gm_types.specs.Specification.{Specification, kind_at}
use Rattle.gm_lexi.specs.Lexicode.{date_bytes}
use Rattle.gm_lexi.specs.Ends.{after_of}
use Rattle.gm_filter.specs.declared.filter.Op.{Op}
use Rattle.gm_filter.specs.declared.filter.Op.TheVariants.{Eq, Ne, Lt, Le, Gt, Ge}
use Rattle.gm_filter.specs.Like.{has_wildcard, plain_front}
use Rattle.gm_filter.specs.Tree.{Tree, include, exclude, negated, all, any, compare, between, like}
use Rattle.gm_filter.specs.Tree.{one_of, is_null, ids, bbox, intersects, disjoint, within, during}
use Rattle.gm_filter.specs.Tree.{before, after, tequals}
use Rattle.gm_bounds.specs.declared.bound.Bound.{Bound}
use Rattle.gm_bounds.specs.declared.bound.Bound.TheVariants.{World, Listed}
use Rattle.gm_bounds.specs.declared.byte_range.ByteRange.{ByteRange}
use Rattle.gm_bounds.specs.Bound.{on}
use Rattle.gm_bounds.specs.ByteRange.{range, met, joined, is_void}
use Rattle.gm_bounds.specs.Values.{range_test, range_rules, ranges_at, byte_ranges_of, compared}
use Rattle.gm_bounds.specs.Values.{compared_form, compared_none, lying_between, literal_form}
use Rattle.gm_bounds.specs.Values.{ranging, ranging_from, beginning, begun_by, patterned}
use Rattle.gm_bounds.specs.Values.{text_form, is_blank, has_zero, ranges_of}
use Rattle.gm_bounds.specs.Lists.{kept, widened, hull_of, capped, pairs_of, pairs, single, listed}
use Rattle.gm_plan.specs.KeyRanges.{list_of, value_ranges}
use Rattle.gm_plan.specs.Merging.{merged}
use Rattle.gm_plan.specs.Spans.{spans_in}
use Rattle.gm_plan.proofs.ApartBounds.{IsOf, of_tree}
use Rattle.gm_plan.proofs.ApartIds.{one_shard}
use Rattle.gm_plan.proofs.ApartMerged.{AreFull, joined_full, all_rise, values_exclusive}
use Rattle.gm_plan.proofs.ApartSpans.{AreExclusive}

-- ---- lists
kept_by : (b : Bool) (r : ByteRange) (ranges : List ByteRange) → is_void r ≡ b → AreFull ranges
    → AreFull (if b then ranges else r ∷ ranges)
kept_by true r ranges e h = h
kept_by false r ranges e h = (e, h)

kept_full : (ranges : List ByteRange) → AreFull (kept is_void ranges)
kept_full [] = tt
kept_full (r ∷ ranges) = kept_by (is_void r) r (kept is_void ranges) refl (kept_full ranges)

abbrev IsFull : Option ByteRange → Type 0
IsFull None = Unit {0}
IsFull (Some r) = is_void r ≡ false

widened_full : (held : Option ByteRange) (r : ByteRange) → IsFull held → is_void r ≡ false
    → is_void (widened joined held r) ≡ false
widened_full None r h full = full
widened_full (Some s) r h full = joined_full s r h full

hull_full : (held : Option ByteRange) (ranges : List ByteRange) → IsFull held → AreFull ranges
    → AreFull (option_to_list (fold (λ held x. Some (widened joined held x)) held ranges))
hull_full None [] h every = tt
hull_full (Some r) [] h every = (h, tt)
hull_full held (r ∷ ranges) h every =
    hull_full (Some (widened joined held r)) ranges (widened_full held r h every.0) every.1

capped_by : (b : Bool) (ranges others : List ByteRange) → AreFull ranges → AreFull others
    → AreFull (if b then ranges else others)
capped_by true ranges others h g = h
capped_by false ranges others h g = g

capped_full : (ranges : List ByteRange) → AreFull ranges → AreFull (capped joined ranges)
capped_full ranges h =
    capped_by (nat_le (length ranges) 8) ranges (option_to_list (hull_of joined ranges)) h
    (hull_full None ranges tt h)

full_append : (xs ys : List ByteRange) → AreFull xs → AreFull ys → AreFull (xs ++ ys)
full_append xs ys h g = all_append (λ r. is_void r ≡ false) xs ys h g

pairs_of_full : (r : ByteRange) (ranges : List ByteRange) → AreFull (pairs_of met is_void r ranges)
pairs_of_full r [] = tt
pairs_of_full r (s ∷ ranges) =
    full_append (kept is_void (met r s ∷ [])) (pairs_of met is_void r ranges)
    (kept_full (met r s ∷ [])) (pairs_of_full r ranges)

pairs_full : (ranges others : List ByteRange) → AreFull (pairs met is_void ranges others)
pairs_full [] others = tt
pairs_full (r ∷ ranges) others =
    full_append (pairs_of met is_void r others) (pairs met is_void ranges others)
    (pairs_of_full r others) (pairs_full ranges others)

-- ---- tests
abbrev FullBound : Bound ByteRange → Type 0
FullBound b = IsOf AreFull b

single_full : (r : ByteRange) → FullBound (single is_void r)
single_full r = kept_full (r ∷ [])

ranging_full : (low : List ℕ) (high : Option (List ℕ)) → FullBound (ranging low high)
ranging_full low high = single_full (range low high)

from_full : (o : Option (List ℕ)) → FullBound (ranging_from o)
from_full None = tt
from_full (Some low) = ranging_full low None

form_full : (op : Op) (form : List ℕ) → FullBound (compared_form op form)
form_full Eq form = single_full (beginning form)
form_full Ne form = tt
form_full Lt form = ranging_full [] (Some form)
form_full Le form = ranging_full [] (after_of form)
form_full Gt form = from_full (after_of form)
form_full Ge form = ranging_full form None

none_full : (op : Op) → FullBound (compared_none op)
none_full Eq = tt
none_full Ne = tt
none_full Lt = tt
none_full Le = tt
none_full Gt = tt
none_full Ge = tt

compared_full : (op : Op) (o : Option (List ℕ)) → FullBound (compared op o)
compared_full op None = none_full op
compared_full op (Some form) = form_full op form

between_full : (low high : Option (List ℕ)) → FullBound (lying_between low high)
between_full None high = tt
between_full (Some low) None = tt
between_full (Some low) (Some high) = ranging_full low (after_of high)

either_full : (b : Bool) (one other : Bound ByteRange) → FullBound one → FullBound other
    → FullBound (if b then one else other)
either_full true one other h g = h
either_full false one other h g = g

like_full : (pattern : List ℕ) → FullBound (patterned pattern)
like_full pattern =
    either_full (has_wildcard pattern) (begun_by pattern (plain_front pattern))
    (compared Eq (text_form pattern))
    (either_full (is_blank (plain_front pattern) || has_zero pattern) World
    (single is_void (beginning (plain_front pattern))) tt
    (single_full (beginning (plain_front pattern))))
    (compared_full Eq (text_form pattern))

on_full : (a d : ℕ) (bound : Bound ByteRange) → FullBound bound → FullBound (on a d bound)
on_full a d bound h = either_full (nat_eq a d) bound World h tt

test_full : (d : ℕ) (k : Kind) (t : Tree) → FullBound (range_test d k t)
test_full d k include = tt
test_full d k exclude = tt
test_full d k (negated t) = tt
test_full d k (all ts) = tt
test_full d k (any ts) = tt
test_full d k (compare a op l) =
    on_full a d (compared op (literal_form k l)) (compared_full op (literal_form k l))
test_full d k (between a low high) =
    on_full a d (lying_between (literal_form k low) (literal_form k high))
    (between_full (literal_form k low) (literal_form k high))
test_full d k (like a pattern) = on_full a d (patterned pattern) (like_full pattern)
test_full d k (one_of a literals) =
    on_full a d (listed is_void joined (ranges_of k literals))
    (capped_full (kept is_void (ranges_of k literals)) (kept_full (ranges_of k literals)))
test_full d k (is_null a) = tt
test_full d k (ids texts) = tt
test_full d k (bbox a b) = tt
test_full d k (intersects a g) = tt
test_full d k (disjoint a g) = tt
test_full d k (within a g) = tt
test_full d k (during a low high) =
    on_full a d (ranging (date_bytes (low +ℤ pos 1)) (Some (date_bytes high)))
    (ranging_full (date_bytes (low +ℤ pos 1)) (Some (date_bytes high)))
test_full d k (before a at) =
    on_full a d (compared_form Lt (date_bytes at)) (form_full Lt (date_bytes at))
test_full d k (after a at) =
    on_full a d (compared_form Gt (date_bytes at)) (form_full Gt (date_bytes at))
test_full d k (tequals a at) =
    on_full a d (compared_form Eq (date_bytes at)) (form_full Eq (date_bytes at))

-- ---- bounds
full_at : (d : ℕ) (o : Option Kind) (t : Tree) → FullBound (ranges_at d o t)
full_at d None t = tt
full_at d (Some k) t = of_tree (range_rules d k) AreFull AreFull (record {
  test = test_full d k;
  none = tt;
  met = λ xs ys h g. capped_full (pairs met is_void xs ys) (pairs_full xs ys);
  weaker = λ xs h. h;
  joined = full_append;
  counted = capped_full;
}) t

list_full : (b : Bound ByteRange) → FullBound b → AreFull (list_of b)
list_full World h = tt
list_full (Listed ranges) h = h

pub all_values : ((front a b : List ℕ)
    → slice_cmp nat_cmp (front ++ a) (front ++ b) ≡ slice_cmp nat_cmp a b)
    → (prefix : List ℕ) (s : Specification) (number : ℕ) (t : Tree)
    → AreExclusive
    (flat_map (spans_in prefix (value_ranges (list_of (byte_ranges_of s number t))))
    (range_with_len 0 1))
all_values shared prefix s number t =
    one_shard (spans_in prefix (value_ranges (list_of (byte_ranges_of s number t))))
    (values_exclusive shared prefix 0 (merged (list_of (byte_ranges_of s number t)))
    (all_rise (list_of (byte_ranges_of s number t))
    (list_full (byte_ranges_of s number t) (full_at number (kind_at s number) t))))
