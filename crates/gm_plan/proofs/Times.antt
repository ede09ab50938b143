-- Which bins intervals meet.
use Rattle.std.proofs.Common.{◌≡◌, ℕ, zero, suc, ◌+◌, ◌*◌, ◌<◌, ◌≤◌, Bool, true, false, List, []}
use Rattle.std.proofs.Common.{◌∷◌, ◌++◌, All, filter, ◌-◌, cond, append-nil, refl, sym, ap, ◌∙◌}
use Rattle.std.proofs.Common.{Option, Some, None, arith, subst}
use Rattle.std.proofs.lemmas.Int.{ints, clamps, to_z-of_z}
use mir.Val.{SFits, of_z, to_z}
use mir.Syntax.{w64}
use Rattle.std.proofs.lemmas.List.Elements.{filter-append}
use Rattle.std.specs.Prelude.{ℤ, pos, int_le, ◌≤ℤ◌, ◌<ℤ◌}
use Rattle.std.specs.Int.{int_min, int_max}
use Rattle.std.specs.List.{range_with_len, AllByRecursion}
use Rattle.gm_base.proofs.Numbers.{le_from}
use Rattle.gm_calendar.specs.declared.period.Period.{Period}
use Rattle.gm_calendar.specs.Bin.{first_ms, last_ms, LiesIn, bin_start}
use Rattle.gm_calendar.specs.Instant.{day_ms}
use Rattle.gm_bounds.specs.declared.interval.Interval.{Interval}
use Rattle.gm_plan.specs.Bins.{not_before, not_after, start_in, end_in, meets_bin}

not_le : (m n : ℤ) → n <ℤ m → int_le m n ≡ false
not_le m n h = sym (omega (arith, ints, h))

pub end_most : (o : Option ℤ) (last : ℤ) → not_after o last ≤ℤ last
end_most None last = omega (arith, ints)
end_most (Some high) last = omega (arith, ints, clamps)

pub end_by_high : (high last : ℤ) → not_after (Some high) last ≤ℤ high
end_by_high high last = omega (arith, ints, clamps)

pub start_least : (o : Option ℤ) (first : ℤ) → first ≤ℤ not_before o first
start_least None first = omega (arith, ints)
start_least (Some low) first = omega (arith, ints, clamps)

start_by : (low first : ℤ) (n : ℕ) → first ≡ pos n
    → int_max low (pos 0) ≤ℤ not_before (Some low) first
start_by low first n h = let e : pos 0 ≤ℤ first =
    subst (λ z. pos 0 ≤ℤ z) (sym h) (omega (arith, ints)) in omega (arith, ints, clamps, e)

abbrev pub Starts : Period → Type 0
Starts period = (number later : ℕ) → number < later → last_ms period number <ℤ first_ms period later

-- a bin before one that starts at a time no later than a low end
pub none_before : (period : Period) → Starts period → (low : ℤ) (high : Option ℤ) (number bin : ℕ)
    → number < bin → first_ms period bin ≤ℤ int_max low (pos 0)
    → meets_bin period number (record { low = Some low; high = high }) ≡ false
none_before period starts low high number bin less at =
    not_le (not_before (Some low) (first_ms period number)) (not_after high (last_ms period number))
    (let s = start_by low (first_ms period number) (bin_start period number * day_ms) refl in
    let e = end_most high (last_ms period number) in
    let l = starts number bin less in
    chain _ _ _ _ _ e l at s)
  where
    chain : (e last first low start : ℤ) → e ≤ℤ last → last <ℤ first → first ≤ℤ low
        → low ≤ℤ start → e <ℤ start
    chain e last first low start p q r t = omega (arith, ints, p, q, r, t)

-- a bin behind one that a high end is in
pub none_behind : (period : Period) → Starts period → (low : Option ℤ) (high : ℤ) (number bin : ℕ)
    → bin < number → int_max high (pos 0) ≤ℤ last_ms period bin
    → meets_bin period number (record { low = low; high = Some high }) ≡ false
none_behind period starts low high number bin less at =
    not_le (not_before low (first_ms period number)) (not_after (Some high) (last_ms period number))
    (let s = start_least low (first_ms period number) in
    let e = end_by_high high (last_ms period number) in
    let l = starts bin number less in
    chain _ _ _ _ _ (high_most high) e at l s)
  where
    high_most : (high : ℤ) → high ≤ℤ int_max high (pos 0)
    high_most high = omega (arith, ints, clamps)

    chain : {high : ℤ} (top last first start e : ℤ) → high ≤ℤ top → e ≤ℤ high → top ≤ℤ last
        → last <ℤ first → first ≤ℤ start → e <ℤ start
    chain top last first start e p q r t u = omega (arith, ints, p, q, r, t, u)

pub none_before_at : (period : Period) → Starts period → (i : Interval) (low : ℤ) → i.low ≡ Some low
    → (number bin : ℕ) → number < bin → first_ms period bin ≤ℤ int_max low (pos 0)
    → meets_bin period number i ≡ false
none_before_at period starts i low e number bin less at =
    subst (λ o. int_le (not_before o (first_ms period number))
    (not_after i.high (last_ms period number)) ≡ false) (sym e)
    (none_before period starts low i.high number bin less at)

pub none_behind_at : (period : Period) → Starts period → (i : Interval) (high : ℤ)
    → i.high ≡ Some high → (number bin : ℕ) → bin < number
    → int_max high (pos 0) ≤ℤ last_ms period bin → meets_bin period number i ≡ false
none_behind_at period starts i high e number bin less at =
    subst (λ o. int_le (not_before i.low (first_ms period number))
    (not_after o (last_ms period number)) ≡ false) (sym e)
    (none_behind period starts i.low high number bin less at)

-- ---- the bins, one after the other
pub skip : (test : ℕ → Bool) (x : ℕ) (xs : List ℕ) (b : Bool) → test x ≡ b
    → filter test (x ∷ xs) ≡ cond b (x ∷ filter test xs) (filter test xs)
skip test x xs b e = ap (λ b. cond b (x ∷ filter test xs) (filter test xs)) e

none_kept : (test : ℕ → Bool) (from n : ℕ)
    → ((number : ℕ) → from ≤ number → number < from + n → test number ≡ false)
    → filter test (range_with_len from n) ≡ []
none_kept test from zero h = refl
none_kept test from (suc n) h =
    skip test from (range_with_len (from + 1) n) false (h from (omega arith) (omega arith))
    ∙ none_kept test (from + 1) n (λ number low high. h number (omega arith) (omega arith))

pub range_split : (from n m : ℕ)
    → range_with_len from (n + m) ≡ range_with_len from n ++ range_with_len (from + n) m
range_split from zero m =
    let e : 0 + m ≡ m = omega arith in
    let e' : from ≡ from + 0 = omega arith in
    ap (range_with_len from) e ∙ ap (λ k. range_with_len k m) e'
range_split from (suc n) m =
    let e : suc n + m ≡ suc (n + m) = omega arith in
    let e' : (from + 1) + n ≡ from + suc n = omega arith in
    ap (range_with_len from) e
    ∙ ap (λ xs. from ∷ xs)
    (range_split (from + 1) n m ∙ ap (λ k. range_with_len (from + 1) n ++ range_with_len k m) e')

pub filter_split : (test : ℕ → Bool) (n m : ℕ)
    → filter test (range_with_len 0 (n + m))
    ≡ filter test (range_with_len 0 n) ++ filter test (range_with_len n m)
filter_split test n m =
    let e : 0 + n ≡ n = omega arith in
    ap (filter test) (range_split 0 n m)
    ∙ filter-append test (range_with_len 0 n) (range_with_len (0 + n) m)
    ∙ ap (λ k. filter test (range_with_len 0 n) ++ filter test (range_with_len k m)) e

pub none_at_first : (test : ℕ → Bool) (n : ℕ) → ((number : ℕ) → number < n → test number ≡ false)
    → [] ≡ filter test (range_with_len 0 n)
none_at_first test n h = sym (none_kept test 0 n (λ number low high. h number (omega arith)))

pub met_next : (test : ℕ → Bool) (n : ℕ)
    → filter test (range_with_len 0 (n + 1))
    ≡ filter test (range_with_len 0 n) ++ filter test (n ∷ [])
met_next test n = filter_split test n 1

pub none_left : (test : ℕ → Bool) (n total : ℕ) (xs : List ℕ)
    → xs ≡ filter test (range_with_len 0 n) → n ≤ total
    → ((number : ℕ) → n ≤ number → number < total → test number ≡ false)
    → xs ≡ filter test (range_with_len 0 total)
none_left test n total xs h less none =
    let e : n + (total - n) ≡ total = omega arith in
    h ∙ sym (ap (λ k. filter test (range_with_len 0 k)) (sym e) ∙ filter_split test n (total - n)
    ∙ ap (λ ys. filter test (range_with_len 0 n) ++ ys)
    (none_kept test n (total - n) (λ number low high. none number low (omega arith)))
    ∙ append-nil (filter test (range_with_len 0 n)))

all_from : (P : ℕ → Type 0) (xs : List ℕ) → AllByRecursion P xs → All P xs
all_from P [] h k d less = absurd (omega arith)
all_from P (x ∷ xs) h zero d less = h.0
all_from P (x ∷ xs) h (suc k) d less = all_from P xs h.1 k d (omega arith)

all_within : (test : ℕ → Bool) (from n last : ℕ) → from + n ≤ last + 1
    → AllByRecursion (λ k. k ≤ last) (filter test (range_with_len from n))
all_within test from zero last less = tt
all_within test from (suc n) last less =
    by (test from) (all_within test (from + 1) n last (omega arith))
  where
    by : (b : Bool) → AllByRecursion (λ k. k ≤ last) (filter test (range_with_len (from + 1) n))
        → AllByRecursion (λ k. k ≤ last)
        (cond b (from ∷ filter test (range_with_len (from + 1) n))
        (filter test (range_with_len (from + 1) n)))
    by true h = (omega arith, h)
    by false h = h

pub all_numbered : (test : ℕ → Bool) (n last : ℕ) (xs : List ℕ)
    → xs ≡ filter test (range_with_len 0 n) → n ≤ last + 1 → All (λ k. k ≤ last) xs
all_numbered test n last xs e less =
    subst (All (λ k. k ≤ last)) (sym e)
    (all_from (λ k. k ≤ last) (filter test (range_with_len 0 n))
    (all_within test 0 n last (omega arith)))

-- ---- ends with their casts
plain_low : (first low m n : ℤ) (last : ℕ) → m ≡ int_max low (pos 0) → n ≡ int_min m (pos last)
    → first ≤ℤ n → first ≤ℤ int_max low (pos 0)
plain_low first low m n last p q r = omega (arith, ints, clamps, p, q, r)

pub at_low : (first low m n : ℤ) (last : ℕ) → SFits w64 low → SFits w64 m → SFits w64 n
    → m ≡ int_max (to_z w64 (of_z w64 low)) (pos 0) → n ≡ int_min (to_z w64 (of_z w64 m)) (pos last)
    → first ≤ℤ to_z w64 (of_z w64 n)
    → first ≤ℤ int_max low (pos 0)
at_low first low m n last f g h p q r =
    plain_low first low m n last (p ∙ ap (λ z. int_max z (pos 0)) (to_z-of_z w64 low f))
    (q ∙ ap (λ z. int_min z (pos last)) (to_z-of_z w64 m g))
    (subst (λ z. first ≤ℤ z) (to_z-of_z w64 n h) r)

pub at_high : (last high m : ℤ) → SFits w64 high → SFits w64 m
    → m ≡ int_max (to_z w64 (of_z w64 high)) (pos 0) → to_z w64 (of_z w64 m) ≤ℤ last
    → int_max high (pos 0) ≤ℤ last
at_high last high m f g p r =
    subst (λ z. z ≤ℤ last) (p ∙ ap (λ z. int_max z (pos 0)) (to_z-of_z w64 high f))
    (subst (λ z. z ≤ℤ last) (to_z-of_z w64 m g) r)

pub end_lies : (period : Period) (number : ℕ) (i : Interval) → meets_bin period number i ≡ true
    → LiesIn period (end_in period number i) number
end_lies period number i h = (
  chain (first_ms period number) (start_in period number i) (end_in period number i)
      (start_least i.low (first_ms period number)) (le_from _ _ h),
  end_most i.high (last_ms period number),
)
  where
    chain : (a b c : ℤ) → a ≤ℤ b → b ≤ℤ c → a ≤ℤ c
    chain a b c p q = omega (arith, ints, p, q)
