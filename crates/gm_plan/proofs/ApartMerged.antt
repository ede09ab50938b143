-- Merged byte ranges rise and do not touch.
use Rattle.std.proofs.Common.{◌≡◌, ℕ, Bool, true, false, List, [], ◌∷◌, ◌++◌, map, refl, sym, ap}
use Rattle.std.proofs.Common.{◌∙◌, true≢false, Option, Some, None}
use Rattle.std.specs.Prelude.{if◌then◌else◌, fold}
use Rattle.std.specs.List.{AllByRecursion}
use Rattle.std.proofs.lemmas.Cmp.{nat_list_cmp_total}
use Rattle.std.specs.Ordering.{nat_cmp, is_lt, is_le}
use Rattle.std.specs.declared.cmp.Ordering.{Ordering}
use Rattle.std.specs.declared.cmp.Ordering.TheVariants.{Less, Equal, Greater}
use Rattle.std.specs.Cmp.Lexicographic.{slice_cmp}
use Rattle.gm_base.proofs.Numbers.{less_of}
use Rattle.gm_bounds.specs.declared.byte_range.ByteRange.{ByteRange}
use Rattle.gm_bounds.specs.declared.ranges.Range.TheVariants as range
use Rattle.gm_bounds.specs.ByteRange.{is_less, less, greater_end, joined, is_void_to, is_void}
use Rattle.gm_plan.specs.KeyRanges.{value_range}
use Rattle.gm_plan.specs.Merging.{ends_below, stands_before, merged_in, merged}
use Rattle.gm_plan.specs.Spans.{span_behind, spans_in, value_end}
use Rattle.gm_plan.proofs.ApartSpans.{C, turned, Excludes, rising, AreExclusive}

-- ---- ranges in which something lies
pub less_by : (low high : List ℕ) (o : Ordering) → C high low ≡ o → is_le o ≡ false
    → C low high ≡ Less
less_by low high Less e h = absurd (true≢false h)
less_by low high Equal e h = absurd (true≢false h)
less_by low high Greater e h = turned high low Greater e

less_from : (low high : List ℕ) → is_le (C high low) ≡ false → C low high ≡ Less
less_from low high h = less_by low high (C high low) refl h

not_le : (low high : List ℕ) → C low high ≡ Less → is_le (C high low) ≡ false
not_le low high h = ap is_le (turned low high Less h)

joined_by : (p q : Bool) (a b c d : List ℕ) → is_lt (C b a) ≡ q → is_lt (C c d) ≡ p → C a c ≡ Less
    → C b d ≡ Less → is_le (C (if p then d else c) (if q then b else a)) ≡ false
joined_by true true a b c d e f h g = not_le b d g
joined_by true false a b c d e f h g =
    not_le a d (nat_list_cmp_total.trans a c d h (less_of (C c d) f))
joined_by false true a b c d e f h g =
    not_le b c (nat_list_cmp_total.trans b a c (less_of (C b a) e) h)
joined_by false false a b c d e f h g = not_le a c h

joined_ends : (a b : List ℕ) (c d : Option (List ℕ)) → is_void_to a c ≡ false
    → is_void_to b d ≡ false → is_void_to (less a b) (greater_end c d) ≡ false
joined_ends a b None d h g = refl
joined_ends a b (Some c) None h g = refl
joined_ends a b (Some c) (Some d) h g =
    joined_by (is_lt (C c d)) (is_lt (C b a)) a b c d refl refl (less_from a c h) (less_from b d g)

abbrev pub AreFull : List ByteRange → Type 0
AreFull ranges = AllByRecursion (λ r. is_void r ≡ false) ranges

pub joined_full : (r s : ByteRange) → is_void r ≡ false → is_void s ≡ false
    → is_void (joined r s) ≡ false
joined_full r s h g = joined_ends r.low s.low r.high s.high h g

-- ---- ends and beginnings
ends_through : (o : Option (List ℕ)) (low : List ℕ) (p : Option (List ℕ)) (next : List ℕ)
    → ends_below o low ≡ true → is_void_to low p ≡ false → ends_below p next ≡ true
    → ends_below o next ≡ true
ends_through None low p next h full g = h
ends_through (Some a) low None next h full g = absurd (true≢false (sym g))
ends_through (Some a) low (Some b) next h full g =
    ap is_lt (nat_list_cmp_total.trans a low next (less_of (C a low) h)
    (nat_list_cmp_total.trans low b next (less_from low b full) (less_of (C b next) g)))

less_one : (o : Option (List ℕ)) (q : Bool) (a b : List ℕ) → ends_below o a ≡ true
    → ends_below o b ≡ true → ends_below o (if q then b else a) ≡ true
less_one o true a b h g = g
less_one o false a b h g = h

abbrev pub Before : ByteRange → ByteRange → Type 0
Before r s = stands_before r s ≡ true

before_joined : (w r s : ByteRange) → Before w r → Before w s → Before w (joined r s)
before_joined w r s h g = less_one w.high (is_less s.low r.low) r.low s.low h g

before_all : (r s : ByteRange) (ranges : List ByteRange) → Before r s → is_void s ≡ false
    → AllByRecursion (λ x. Before s x) ranges → AllByRecursion (λ x. Before r x) ranges
before_all r s [] h full every = tt
before_all r s (x ∷ ranges) h full every =
    (ends_through r.high s.low s.high x.low h full every.0, before_all r s ranges h full every.1)

-- ---- each stands before all that follow it
abbrev pub AreRising : List ByteRange → Type 0
AreRising [] = Unit {0}
AreRising (r ∷ ranges) = AllByRecursion (λ x. Before r x) ranges × AreRising ranges

placed_all : (P : ByteRange → Type 0) (p q : Bool) (r s : ByteRange)
    (ranges one two : List ByteRange) → P r → P s → AllByRecursion P ranges → AllByRecursion P one
    → AllByRecursion P two
    → AllByRecursion P (if p then r ∷ s ∷ ranges else if q then s ∷ one else two)
placed_all P true q r s ranges one two h g every one_every two_every = (h, (g, every))
placed_all P false true r s ranges one two h g every one_every two_every = (g, one_every)
placed_all P false false r s ranges one two h g every one_every two_every = two_every

-- what holds of all, and of two joined, holds of all that are merged
merged_all : (P : ByteRange → Type 0) → ((r s : ByteRange) → P r → P s → P (joined r s))
    → (r : ByteRange) (ranges : List ByteRange) → P r → AllByRecursion P ranges
    → AllByRecursion P (merged_in r ranges)
merged_all P join r [] h every = (h, tt)
merged_all P join r (s ∷ ranges) h every =
    placed_all P (stands_before r s) (stands_before s r) r s ranges (merged_in r ranges)
    (merged_in (joined r s) ranges) h every.0 every.1
    (merged_all P join r ranges h every.1)
    (merged_all P join (joined r s) ranges (join r s h every.0) every.1)

placed_rises : (p q : Bool) (r s : ByteRange) (ranges one two : List ByteRange)
    → stands_before r s ≡ p → stands_before s r ≡ q → is_void s ≡ false
    → AreRising (s ∷ ranges) → (Before s r → AllByRecursion (λ x. Before s x) one) → AreRising one
    → AreRising two
    → AreRising (if p then r ∷ s ∷ ranges else if q then s ∷ one else two)
placed_rises true q r s ranges one two e f full h behind up more =
    ((e, before_all r s ranges e full h.0), h)
placed_rises false true r s ranges one two e f full h behind up more = (behind f, up)
placed_rises false false r s ranges one two e f full h behind up more = more

merged_rises : (r : ByteRange) (ranges : List ByteRange) → is_void r ≡ false → AreFull ranges
    → AreRising ranges → AreRising (merged_in r ranges)
merged_rises r [] full every h = (tt, tt)
merged_rises r (s ∷ ranges) full every h =
    placed_rises (stands_before r s) (stands_before s r) r s ranges (merged_in r ranges)
    (merged_in (joined r s) ranges) refl refl every.0 h
    (λ before. merged_all (λ x. Before s x) (λ x y. before_joined s x y) r ranges before h.0)
    (merged_rises r ranges full every.1 h.1)
    (merged_rises (joined r s) ranges (joined_full r s full every.0) every.1 h.1)

fold_rises : (held ranges : List ByteRange) → AreFull held → AreRising held → AreFull ranges
    → AreRising (fold (λ held r. merged_in r held) held ranges)
fold_rises held [] full h every = h
fold_rises held (r ∷ ranges) full h every =
    fold_rises (merged_in r held) ranges
    (merged_all (λ x. is_void x ≡ false) joined_full r held every.0 full)
    (merged_rises r held every.0 full h) every.1

pub all_rise : (ranges : List ByteRange) → AreFull ranges → AreRising (merged ranges)
all_rise ranges full = fold_rises [] ranges tt tt full

-- ---- their spans
module _ (shared : (front a b : List ℕ)
    → slice_cmp nat_cmp (front ++ a) (front ++ b) ≡ slice_cmp nat_cmp a b) (prefix : List ℕ)
    (shard : ℕ) where
  ends_first : (o : Option (List ℕ)) (low : List ℕ) → ends_below o low ≡ true
      → is_le (C (value_end prefix o) (prefix ++ low)) ≡ true
  ends_first None low h = absurd (true≢false (sym h))
  ends_first (Some high) low h = ap is_le (shared prefix high low ∙ less_of (C high low) h)

  values_apart : (r s : ByteRange) → Before r s
      → Excludes (span_behind prefix shard (value_range r))
      (span_behind prefix shard (value_range s))
  values_apart r s h =
      rising (span_behind prefix shard (value_range r)) (span_behind prefix shard (value_range s))
      (ends_first r.high s.low h)

  value_and_more : (r : ByteRange) (ranges : List ByteRange)
      → AllByRecursion (λ x. Before r x) ranges
      → AllByRecursion (λ y. Excludes (span_behind prefix shard (value_range r)) y)
      (spans_in prefix (map value_range ranges) shard)
  value_and_more r [] h = tt
  value_and_more r (s ∷ ranges) h = (values_apart r s h.0, value_and_more r ranges h.1)

  pub values_exclusive : (ranges : List ByteRange) → AreRising ranges
      → AreExclusive (spans_in prefix (map value_range ranges) shard)
  values_exclusive [] h = tt
  values_exclusive (r ∷ ranges) h = (value_and_more r ranges h.0, values_exclusive ranges h.1)
