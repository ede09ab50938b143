-- The spans of ranges of codes and of bins, in one shard and in two.
use Rattle.std.proofs.Common.{◌≡◌, ℕ, zero, suc, ◌+◌, ◌<◌, ◌≤◌, Bool, true, false, List, [], ◌∷◌}
use Rattle.std.proofs.Common.{◌++◌, length, take, All, refl, sym, ap, ◌∙◌, true≢false, Option, Some}
use Rattle.std.proofs.Common.{None, arith, subst, mod-lt}
use Rattle.std.specs.Int.{byte_at}
use Rattle.std.specs.List.{AllByRecursion, flat_map, range_with_len}
use Rattle.std.proofs.lemmas.List.Elements.{All-from_recursion}
use Rattle.std.specs.Ordering.{nat_cmp, ordering_then, is_le}
use Rattle.std.specs.Cmp.Lexicographic.{slice_cmp}
use Rattle.byteorder.specs.Endian.{big_bytes}
use Rattle.gm_base.proofs.Booleans.{true_of_not}
use Rattle.gm_base.proofs.Lists.{all_append}
use Rattle.gm_base.proofs.Numbers.{is_greater}
use Rattle.gm_base.specs.Spans.{Span}
use Rattle.gm_lexi.specs.Ends.{after_of, is_before}
use Rattle.gm_types.specs.declared.index.IndexKind.{IndexKind}
use Rattle.gm_types.specs.declared.index.IndexKind.TheVariants.{Id, Z2, Z3, Xz2, Xz3, Attr}
use Rattle.gm_types.specs.Specification.{Specification}
use Rattle.gm_keys.specs.Key.{prefix_of, index_number, attribute_number, code_front, bin_front}
use Rattle.gm_keys.specs.Key.{bin_code_front}
use Rattle.gm_bounds.specs.declared.ranges.Range.{Range}
use Rattle.gm_bounds.specs.declared.ranges.Range.TheVariants as range
use Rattle.gm_plan.specs.Spans.{end_of, end_or_none, from_to, span_behind, spans_in}
use Rattle.gm_plan.proofs.ApartSpans.{C, Excludes, rising, AreExclusive, exclusive_append}

-- what is known of the order of bytes
pub record ByteLaws : Type 0 where
  pub high : (high other : List ℕ) → All (λ byte. byte < 256) (take (length high) other)
      → is_before (after_of high) other ≡ is_le (slice_cmp nat_cmp (take (length high) other) high)
  pub shared : (front a b : List ℕ)
      → slice_cmp nat_cmp (front ++ a) (front ++ b) ≡ slice_cmp nat_cmp a b

-- ---- bytes
abbrev pub AreBytes : List ℕ → Type 0
AreBytes bytes = AllByRecursion (λ byte. byte < 256) bytes

byte_is : (k n : ℕ) → byte_at k n < 256
byte_is zero n = mod-lt n (omega arith)
byte_is (suc k) n = mod-lt _ (omega arith)

number_bytes : (width n : ℕ) → AreBytes (big_bytes width n)
number_bytes zero n = tt
number_bytes (suc k) n = (byte_is k n, number_bytes k n)

kind_bytes : (kind : IndexKind) → AreBytes (index_number kind ∷ attribute_number kind)
kind_bytes Id = (omega arith, tt)
kind_bytes Z2 = (omega arith, tt)
kind_bytes Z3 = (omega arith, tt)
kind_bytes Xz2 = (omega arith, tt)
kind_bytes Xz3 = (omega arith, tt)
kind_bytes (Attr n) = (omega arith, number_bytes 2 n)

prefix_bytes : (s : Specification) (kind : IndexKind) → AreBytes (prefix_of s kind)
unfolding prefix_of
prefix_bytes s kind =
    all_append (λ byte. byte < 256) (big_bytes 2 s.number)
    (index_number kind ∷ attribute_number kind) (number_bytes 2 s.number) (kind_bytes kind)

take_bytes : (n : ℕ) (xs : List ℕ) → AreBytes xs → AreBytes (take n xs)
take_bytes zero xs h = tt
take_bytes (suc n) [] h = tt
take_bytes (suc n) (x ∷ xs) h = (h.0, take_bytes n xs h.1)

take_front : (front : List ℕ) (x : ℕ) (xs : List ℕ) (y : ℕ) (ys : List ℕ)
    → take (length (front ++ (x ∷ xs))) (front ++ (y ∷ ys)) ≡ front ++ (y ∷ take (length xs) ys)
take_front [] x xs y ys = refl
take_front (f ∷ front) x xs y ys = ap (λ zs. f ∷ zs) (take_front front x xs y ys)

end_by : (o : Option (List ℕ)) (other : List ℕ) → is_before o other ≡ false
    → is_le (C (end_or_none o) other) ≡ true
end_by None other h = absurd (true≢false h)
end_by (Some end) other h = true_of_not (is_le (C end other)) h

-- what begins with the one shard ends before the other begins
pub shards_rise : ByteLaws → (s : Specification) (kind : IndexKind) (a b : ℕ) (x y : List ℕ) → a < b
    → b < 256 → AreBytes y
    → is_le (C (end_of (prefix_of s kind ++ (a ∷ x))) (prefix_of s kind ++ (b ∷ y))) ≡ true
shards_rise laws s kind a b x y less few bytes =
    let prefix = prefix_of s kind in
    let front = take_front prefix a x b y in
    let all : AreBytes (take (length (prefix ++ (a ∷ x))) (prefix ++ (b ∷ y))) =
    take_bytes (length (prefix ++ (a ∷ x))) (prefix ++ (b ∷ y))
    (all_append (λ byte. byte < 256) prefix (b ∷ y) (prefix_bytes s kind) (few, bytes)) in
    end_by (after_of (prefix ++ (a ∷ x))) (prefix ++ (b ∷ y))
    (laws.high (prefix ++ (a ∷ x)) (prefix ++ (b ∷ y))
    (All-from_recursion (λ byte. byte < 256)
    (take (length (prefix ++ (a ∷ x))) (prefix ++ (b ∷ y))) all)
    ∙ ap (λ k. is_le (C k (prefix ++ (a ∷ x)))) front
    ∙ ap is_le (laws.shared prefix (b ∷ take (length x) y) (a ∷ x))
    ∙ ap (λ o. is_le (ordering_then o (C (take (length x) y) x))) (is_greater b a less))

-- what stands behind the shard in the front of a range's low end, and of its high end
abbrev pub is_curved : Range → Bool
is_curved (range.Codes low high level) = true
is_curved (range.InBin number low high level) = true
is_curved (range.Span first last) = true
is_curved (range.Values low high) = false
is_curved (range.OneId id) = false
is_curved range.All = false

abbrev low_behind : Range → List ℕ
low_behind (range.Codes low high level) = big_bytes 8 low
low_behind (range.InBin number low high level) = big_bytes 2 number ++ big_bytes 8 low
low_behind (range.Span first last) = big_bytes 2 first
low_behind _ = []

abbrev high_behind : Range → List ℕ
high_behind (range.Codes low high level) = big_bytes 8 high
high_behind (range.InBin number low high level) = big_bytes 2 number ++ big_bytes 8 high
high_behind (range.Span first last) = big_bytes 2 last
high_behind _ = []

behind_bytes : (r : Range) → AreBytes (low_behind r)
behind_bytes (range.Codes low high level) = number_bytes 8 low
behind_bytes (range.InBin number low high level) =
    all_append (λ byte. byte < 256) (big_bytes 2 number) (big_bytes 8 low) (number_bytes 2 number)
    (number_bytes 8 low)
behind_bytes (range.Span first last) = number_bytes 2 first
behind_bytes (range.Values low high) = tt
behind_bytes (range.OneId id) = tt
behind_bytes range.All = tt

span_is : (prefix : List ℕ) (shard : ℕ) (r : Range) → is_curved r ≡ true
    → span_behind prefix shard r
    ≡ from_to (prefix ++ (shard ∷ low_behind r)) (prefix ++ (shard ∷ high_behind r))
unfolding code_front bin_front bin_code_front
span_is prefix shard (range.Codes low high level) h = refl
span_is prefix shard (range.InBin number low high level) h = refl
span_is prefix shard (range.Span first last) h = refl
span_is prefix shard (range.Values low high) h = absurd (true≢false (sym h))
span_is prefix shard (range.OneId id) h = absurd (true≢false (sym h))
span_is prefix shard range.All h = absurd (true≢false (sym h))

cross : ByteLaws → (s : Specification) (kind : IndexKind) (a b : ℕ) (r q : Range) → a < b → b < 256
    → is_curved r ≡ true → is_curved q ≡ true
    → Excludes (span_behind (prefix_of s kind) a r) (span_behind (prefix_of s kind) b q)
cross laws s kind a b r q less few h g =
    let prefix = prefix_of s kind in
    rising (span_behind prefix a r) (span_behind prefix b q)
    (subst (λ (x : Span). is_le (C x.1 (span_behind prefix b q).0) ≡ true)
    (sym (span_is prefix a r h))
    (subst (λ (y : Span). is_le (C (end_of (prefix ++ (a ∷ high_behind r))) y.0) ≡ true)
    (sym (span_is prefix b q g))
    (shards_rise laws s kind a b (high_behind r) (low_behind q) less few (behind_bytes q))))

abbrev pub AreCurved : List Range → Type 0
AreCurved ranges = AllByRecursion (λ r. is_curved r ≡ true) ranges

cross_one : ByteLaws
    → (s : Specification) (kind : IndexKind) (a b : ℕ) (r : Range) (ranges : List Range) → a < b
    → b < 256 → is_curved r ≡ true → AreCurved ranges
    → AllByRecursion (λ y. Excludes (span_behind (prefix_of s kind) a r) y)
    (spans_in (prefix_of s kind) ranges b)
cross_one laws s kind a b r [] less few h all = tt
cross_one laws s kind a b r (q ∷ ranges) less few h all = (
  cross laws s kind a b r q less few h all.0,
  cross_one laws s kind a b r ranges less few h all.1,
)

cross_all : ByteLaws → (s : Specification) (kind : IndexKind) (a b : ℕ) (ranges others : List Range)
    → a < b → b < 256 → AreCurved ranges → AreCurved others
    → AllByRecursion
    (λ x. AllByRecursion (λ y. Excludes x y) (spans_in (prefix_of s kind) others b))
    (spans_in (prefix_of s kind) ranges a)
cross_all laws s kind a b [] others less few all every = tt
cross_all laws s kind a b (r ∷ ranges) others less few all every = (
  cross_one laws s kind a b r others less few all.0 every,
  cross_all laws s kind a b ranges others less few all.1 every,
)

cross_flat : ByteLaws → (s : Specification) (kind : IndexKind) (a from n : ℕ) (ranges : List Range)
    → a < from → from + n ≤ 256 → AreCurved ranges
    → AllByRecursion
    (λ x. AllByRecursion (λ y. Excludes x y)
    (flat_map (spans_in (prefix_of s kind) ranges) (range_with_len from n)))
    (spans_in (prefix_of s kind) ranges a)
cross_flat laws s kind a from zero ranges less few all = none (spans_in (prefix_of s kind) ranges a)
  where
    none : (xs : List Span) → AllByRecursion (λ x. AllByRecursion (λ y. Excludes x y) []) xs
    none [] = tt
    none (x ∷ xs) = (tt, none xs)
cross_flat laws s kind a from (suc n) ranges less few all =
    joined (spans_in (prefix_of s kind) ranges a) (spans_in (prefix_of s kind) ranges from)
    (flat_map (spans_in (prefix_of s kind) ranges) (range_with_len (from + 1) n))
    (cross_all laws s kind a from ranges ranges less (omega arith) all all)
    (cross_flat laws s kind a (from + 1) n ranges (omega arith) (omega arith) all)
  where
    joined : (xs ys zs : List Span) → AllByRecursion (λ x. AllByRecursion (λ y. Excludes x y) ys) xs
        → AllByRecursion (λ x. AllByRecursion (λ y. Excludes x y) zs) xs
        → AllByRecursion (λ x. AllByRecursion (λ y. Excludes x y) (ys ++ zs)) xs
    joined [] ys zs h g = tt
    joined (x ∷ xs) ys zs h g =
        (all_append (λ y. Excludes x y) ys zs h.0 g.0, joined xs ys zs h.1 g.1)

-- ---- all shards
pub shards_exclusive : ByteLaws → (s : Specification) (kind : IndexKind) (ranges : List Range)
    → AreCurved ranges
    → ((shard : ℕ) → shard < 256 → AreExclusive (spans_in (prefix_of s kind) ranges shard))
    → (from n : ℕ) → from + n ≤ 256
    → AreExclusive (flat_map (spans_in (prefix_of s kind) ranges) (range_with_len from n))
shards_exclusive laws s kind ranges all within from zero few = tt
shards_exclusive laws s kind ranges all within from (suc n) few =
    exclusive_append (spans_in (prefix_of s kind) ranges from)
    (flat_map (spans_in (prefix_of s kind) ranges) (range_with_len (from + 1) n))
    (within from (omega arith))
    (shards_exclusive laws s kind ranges all within (from + 1) n (omega arith))
    (cross_flat laws s kind from (from + 1) n ranges (omega arith) (omega arith) all)
