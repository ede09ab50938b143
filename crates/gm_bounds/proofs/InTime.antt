-- An instant of which a filter is true is in one of its intervals.
use Rattle.std.proofs.Common.{◌≡◌, ℕ, Bool, true, false, List, [], ◌∷◌, refl, sym, true≢false, inl}
use Rattle.std.proofs.Common.{inr, Option, Some, None, arith, subst}
use Rattle.std.proofs.lemmas.Bool.{and_parts, and_from, or_cases, or_left, or_right}
use Rattle.std.proofs.lemmas.Cmp.{int_ranked}
use Rattle.std.proofs.lemmas.Int.{ints, clamps}
use Rattle.std.proofs.lemmas.List.Folds.{list_any-append}
use Rattle.std.specs.Prelude.{ℤ, pos, int_le, ◌≤ℤ◌, ◌<ℤ◌, ◌+ℤ◌, ◌-ℤ◌}
use Rattle.std.specs.Int.{int_min, int_max}
use Rattle.std.specs.List.{list_any}
use Rattle.std.specs.Ordering.{int_cmp, MatchOrdering}
use Rattle.std.specs.declared.cmp.Ordering.{Ordering}
use Rattle.std.specs.declared.cmp.Ordering.TheVariants.{Less, Equal, Greater}
use Rattle.gm_base.proofs.Numbers.{le_from, le_to}
use Rattle.gm_types.specs.Specification.{Specification, default_date_of}
use Rattle.gm_feature.specs.declared.feature.Feature.{Feature}
use Rattle.gm_feature.specs.declared.value.Value.{Value}
use Rattle.gm_feature.specs.declared.value.Value.TheVariants as value
use Rattle.gm_feature.specs.Feature.{value_at}
use Rattle.gm_feature.specs.Value.{value_fits}
use Rattle.gm_types.specs.declared.kind.Kind.TheVariants as kind
use Rattle.gm_filter.specs.declared.filter.Op.{Op}
use Rattle.gm_filter.specs.declared.filter.Op.TheVariants.{Eq, Ne, Lt, Le, Gt, Ge}
use Rattle.gm_filter.specs.declared.filter.Literal.{Literal}
use Rattle.gm_filter.specs.declared.filter.Literal.TheVariants as literal
use Rattle.gm_filter.specs.Comparison.{compares, passes}
use Rattle.gm_filter.specs.Suitability.{Suits}
use Rattle.gm_filter.specs.Tree.{Tree, compare, between, one_of, during, before, after, tequals}
use Rattle.gm_filter.specs.Truth.{is_true, lies_between, lies_during, is_one_of}
use Rattle.gm_bounds.specs.declared.interval.Interval.{Interval}
use Rattle.gm_bounds.specs.Found.{IsFound}
use Rattle.gm_bounds.specs.Interval.{interval, met, joined, is_void, is_void_between, is_in}
use Rattle.gm_bounds.specs.Interval.{is_date_in, has_begun, has_not_ended, greater_if_any}
use Rattle.gm_bounds.specs.Interval.{less_if_any, less_if_both, greater_if_both}
use Rattle.gm_bounds.specs.Time.{interval_rules, interval_test, intervals_of, intervals_at, lasting}
use Rattle.gm_bounds.specs.Time.{dated, compared, lying_between, instant_of, instants_of}
use Rattle.gm_bounds.specs.Lists.{listed}
use Rattle.gm_bounds.proofs.Sound.{Widens, Narrows, AreFull, IsSoundFor, meeting_finds}
use Rattle.gm_bounds.proofs.Sound.{capped_finds, single_finds, listed_finds, on_finds, found}

-- ---- ends

begun_left : (a b : Option ℤ) (at : ℤ) → has_begun a at ≡ true
    → has_begun (less_if_both a b) at ≡ true
begun_left None b at h = refl
begun_left (Some m) None at h = refl
begun_left (Some m) (Some n) at h = let low = le_from m at h in
    le_to (int_min m n) at (omega (arith, ints, clamps, low))

begun_right : (a b : Option ℤ) (at : ℤ) → has_begun b at ≡ true
    → has_begun (less_if_both a b) at ≡ true
begun_right None b at h = refl
begun_right (Some m) None at h = refl
begun_right (Some m) (Some n) at h = let low = le_from n at h in
    le_to (int_min m n) at (omega (arith, ints, clamps, low))

ended_left : (a b : Option ℤ) (at : ℤ) → has_not_ended a at ≡ true
    → has_not_ended (greater_if_both a b) at ≡ true
ended_left None b at h = refl
ended_left (Some m) None at h = refl
ended_left (Some m) (Some n) at h = let high = le_from at m h in
    le_to at (int_max m n) (omega (arith, ints, clamps, high))

ended_right : (a b : Option ℤ) (at : ℤ) → has_not_ended b at ≡ true
    → has_not_ended (greater_if_both a b) at ≡ true
ended_right None b at h = refl
ended_right (Some m) None at h = refl
ended_right (Some m) (Some n) at h = let high = le_from at n h in
    le_to at (int_max m n) (omega (arith, ints, clamps, high))

begun_both : (a b : Option ℤ) (at : ℤ) → has_begun a at ≡ true → has_begun b at ≡ true
    → has_begun (greater_if_any a b) at ≡ true
begun_both None b at h g = g
begun_both (Some m) None at h g = h
begun_both (Some m) (Some n) at h g = let one = le_from m at h in let two = le_from n at g in
    le_to (int_max m n) at (omega (arith, ints, clamps, one, two))

ended_both : (a b : Option ℤ) (at : ℤ) → has_not_ended a at ≡ true → has_not_ended b at ≡ true
    → has_not_ended (less_if_any a b) at ≡ true
ended_both None b at h g = g
ended_both (Some m) None at h g = h
ended_both (Some m) (Some n) at h g = let one = le_from at m h in let two = le_from at n g in
    le_to at (int_min m n) (omega (arith, ints, clamps, one, two))

not_void : (a b : Option ℤ) (at : ℤ) → has_begun a at ≡ true → has_not_ended b at ≡ true
    → is_void_between a b ≡ false
not_void None b at h g = refl
not_void (Some m) None at h g = refl
not_void (Some m) (Some n) at h g = let one = le_from m at h in let two = le_from at n g in
    sym (omega (arith, ints, one, two))

-- ---- intervals

instant_left : (at : ℤ) (i j : Interval) → is_in at i ≡ true → is_in at (joined i j) ≡ true
instant_left at i j h =
    let parts = and_parts (has_begun i.low at) (has_not_ended i.high at) h in
    and_from (has_begun (less_if_both i.low j.low) at) _ (begun_left i.low j.low at parts.0)
    (ended_left i.high j.high at parts.1)

instant_right : (at : ℤ) (i j : Interval) → is_in at j ≡ true → is_in at (joined i j) ≡ true
instant_right at i j h =
    let parts = and_parts (has_begun j.low at) (has_not_ended j.high at) h in
    and_from (has_begun (less_if_both i.low j.low) at) _ (begun_right i.low j.low at parts.0)
    (ended_right i.high j.high at parts.1)

instant_both : (at : ℤ) (i j : Interval) → is_in at i ≡ true → is_in at j ≡ true
    → is_in at (met i j) ≡ true
instant_both at i j h g =
    let one = and_parts (has_begun i.low at) (has_not_ended i.high at) h in
    let two = and_parts (has_begun j.low at) (has_not_ended j.high at) g in
    and_from (has_begun (greater_if_any i.low j.low) at) _ (begun_both i.low j.low at one.0 two.0)
    (ended_both i.high j.high at one.1 two.1)

instant_full : (at : ℤ) (i : Interval) → is_in at i ≡ true → is_void i ≡ false
instant_full at i h = let parts = and_parts (has_begun i.low at) (has_not_ended i.high at) h in
    not_void i.low i.high at parts.0 parts.1

value_left : (v : Value) (i j : Interval) → is_date_in v i ≡ true → is_date_in v (joined i j) ≡ true
value_left (value.Date at) i j h = instant_left at i j h
value_left _ i j h = h

value_right : (v : Value) (i j : Interval) → is_date_in v j ≡ true
    → is_date_in v (joined i j) ≡ true
value_right (value.Date at) i j h = instant_right at i j h
value_right _ i j h = h

widens : (v : Value) → Widens (is_date_in v) joined
widens v = record { left = value_left v; right = value_right v }

narrows : (v : Value) → Narrows (is_date_in v) met
narrows (value.Date at) i j h g = instant_both at i j h g
narrows _ i j h g = h

full : (v : Value) → AreFull (is_date_in v) is_void
full (value.Date at) i h = instant_full at i h
full _ i h = absurd (true≢false (sym h))

-- ---- comparisons

-- how an instant that passes stands to the other
abbrev IsPassed : Op → ℤ → ℤ → Type 0
IsPassed Eq m n = m ≡ n
IsPassed Ne m n = Unit {0}
IsPassed Lt m n = m <ℤ n
IsPassed Le m n = m ≤ℤ n
IsPassed Gt m n = n <ℤ m
IsPassed Ge m n = n ≤ℤ m

passed_by : (op : Op) (m n : ℤ) (o : Ordering) → MatchOrdering o (m <ℤ n) (m ≡ n) (n <ℤ m)
    → passes op o ≡ true → IsPassed op m n
passed_by Eq m n Less r h = absurd (true≢false (sym h))
passed_by Eq m n Equal r h = r
passed_by Eq m n Greater r h = absurd (true≢false (sym h))
passed_by Ne m n o r h = tt
passed_by Lt m n Less r h = r
passed_by Lt m n Equal r h = absurd (true≢false (sym h))
passed_by Lt m n Greater r h = absurd (true≢false (sym h))
passed_by Le m n Less r h = omega (arith, ints, r)
passed_by Le m n Equal r h = omega (arith, ints, r)
passed_by Le m n Greater r h = absurd (true≢false (sym h))
passed_by Gt m n Less r h = absurd (true≢false (sym h))
passed_by Gt m n Equal r h = absurd (true≢false (sym h))
passed_by Gt m n Greater r h = r
passed_by Ge m n Less r h = absurd (true≢false (sym h))
passed_by Ge m n Equal r h = omega (arith, ints, r)
passed_by Ge m n Greater r h = omega (arith, ints, r)

pub passed : (op : Op) (m n : ℤ) → passes op (int_cmp m n) ≡ true → IsPassed op m n
passed op m n h = passed_by op m n (int_cmp m n) (int_ranked m n (int_cmp m n) refl) h

lasting_found : (at : ℤ) (low high : Option ℤ) → has_begun low at ≡ true
    → has_not_ended high at ≡ true → IsFound (is_date_in (value.Date at)) (lasting low high)
lasting_found at low high h g =
    single_finds (is_date_in (value.Date at)) is_void (interval low high) (not_void low high at h g)
    (and_from (has_begun low at) _ h g)

dated_passed : (op : Op) (at to : ℤ) → IsPassed op at to
    → IsFound (is_date_in (value.Date at)) (dated op to)
dated_passed Eq at to h =
    lasting_found at (Some to) (Some to) (le_to to at (omega (arith, ints, h)))
    (le_to at to (omega (arith, ints, h)))
dated_passed Ne at to h = tt
dated_passed Lt at to h =
    lasting_found at None (Some (to -ℤ pos 1)) refl
    (le_to at (to -ℤ pos 1) (omega (arith, ints, h)))
dated_passed Le at to h = lasting_found at None (Some to) refl (le_to at to h)
dated_passed Gt at to h =
    lasting_found at (Some (to +ℤ pos 1)) None
    (le_to (to +ℤ pos 1) at (omega (arith, ints, h))) refl
dated_passed Ge at to h = lasting_found at (Some to) None (le_to to at h) refl

dated_found : (v : Value) (op : Op) (to : ℤ) → compares op v (literal.Date to) ≡ true
    → IsFound (is_date_in v) (dated op to)
dated_found (value.Date at) op to h = dated_passed op at to (passed op at to h)
dated_found _ op to h = absurd (true≢false (sym h))

compared_found : (v : Value) (op : Op) (l : Literal) → compares op v l ≡ true
    → IsFound (is_date_in v) (compared op l)
compared_found v op (literal.Date to) h = dated_found v op to h
compared_found v op (literal.Number n) h = tt
compared_found v op (literal.Text t) h = tt
compared_found v op (literal.Truth b) h = tt

between_found : (v : Value) (low high : Literal) → lies_between v low high ≡ true
    → IsFound (is_date_in v) (lying_between low high)
between_found (value.Date at) (literal.Date low) (literal.Date high) h =
    let parts = and_parts (compares Ge (value.Date at) (literal.Date low)) _ h in
    let from = passed Ge at low parts.0 in
    let to = passed Le at high parts.1 in
    lasting_found at (Some low) (Some high) (le_to low at from) (le_to at high to)
between_found _ (literal.Date low) (literal.Date high) h = absurd (true≢false (sym h))
between_found v _ _ h = tt

during_found : (v : Value) (low high : ℤ)
    → lies_during v (literal.Date low) (literal.Date high) ≡ true
    → IsFound (is_date_in v) (lasting (Some (low +ℤ pos 1)) (Some (high -ℤ pos 1)))
during_found (value.Date at) low high h =
    let parts = and_parts (compares Gt (value.Date at) (literal.Date low)) _ h in
    let from = passed Gt at low parts.0 in
    let to = passed Lt at high parts.1 in
    lasting_found at (Some (low +ℤ pos 1)) (Some (high -ℤ pos 1))
    (le_to (low +ℤ pos 1) at (omega (arith, ints, from)))
    (le_to at (high -ℤ pos 1) (omega (arith, ints, to)))
during_found _ low high h = absurd (true≢false (sym h))

-- a value that is one of the literals, where it is an instant
same_instant : (at : ℤ) (l : Literal) → compares Eq (value.Date at) l ≡ true
    → list_any (is_in at) (instant_of l) ≡ true
same_instant at (literal.Date to) h =
    let same = passed Eq at to h in
    or_left _ _ (and_from (int_le to at) _ (le_to to at (omega (arith, ints, same)))
    (le_to at to (omega (arith, ints, same))))
same_instant at (literal.Number n) h = absurd (true≢false (sym h))
same_instant at (literal.Text t) h = absurd (true≢false (sym h))
same_instant at (literal.Truth b) h = absurd (true≢false (sym h))

one_of_instants : (at : ℤ) (literals : List Literal) → is_one_of (value.Date at) literals ≡ true
    → list_any (is_date_in (value.Date at)) (instants_of literals) ≡ true
one_of_instants at [] h = absurd (true≢false (sym h))
one_of_instants at (l ∷ literals) h =
    rw list_any-append
    (elim (or_cases (compares Eq (value.Date at) l) (is_one_of (value.Date at) literals) h) [
      | inl here ↦ or_left _ _ (same_instant at l here)
      | inr there ↦ or_right (list_any (is_date_in (value.Date at)) (instant_of l)) _
          (one_of_instants at literals there)
    ])

null_is_none : (literals : List Literal) → is_one_of value.Null literals ≡ true → ⊥
null_is_none [] h = true≢false (sym h)
null_is_none (l ∷ literals) h = null_is_none literals h

one_of_found : (v : Value) (literals : List Literal) → value_fits kind.Date v ≡ true
    → is_one_of v literals ≡ true
    → IsFound (is_date_in v) (listed is_void joined (instants_of literals))
one_of_found (value.Date at) literals k h =
    listed_finds (is_date_in (value.Date at)) is_void joined (instants_of literals)
    (full (value.Date at)) (widens (value.Date at)) (one_of_instants at literals h)
one_of_found value.Null literals k h = absurd (null_is_none literals h)
one_of_found (value.Text t) literals k h = absurd (true≢false (sym k))
one_of_found (value.Integer n) literals k h = absurd (true≢false (sym k))
one_of_found (value.Long n) literals k h = absurd (true≢false (sym k))
one_of_found (value.Boolean b) literals k h = absurd (true≢false (sym k))
one_of_found (value.Geo g) literals k h = absurd (true≢false (sym k))

-- ---- tests

module _ (s : Specification) (f : Feature) (d : ℕ)
    (fits : value_fits kind.Date (value_at f d) ≡ true) where
  -- what is true of the value of attribute a is true of that of d, where these are one
  moved : (a : ℕ) (test : Value → Bool) → a ≡ d → test (value_at f a) ≡ true
      → test (value_at f d) ≡ true
  moved a test same h = subst (λ n. test (value_at f n) ≡ true) same h

  tests_found : (t : Tree) → Suits s t → is_true f t ≡ true
      → IsFound (is_date_in (value_at f d)) (interval_test d t)
  tests_found (compare a op l) h e =
      on_finds (is_date_in (value_at f d)) a d _
      (λ same. compared_found (value_at f d) op l (moved a (λ v. compares op v l) same e))
  tests_found (between a low high) h e =
      on_finds (is_date_in (value_at f d)) a d _
      (λ same. between_found (value_at f d) low high
      (moved a (λ v. lies_between v low high) same e))
  tests_found (one_of a literals) h e =
      on_finds (is_date_in (value_at f d)) a d _
      (λ same. one_of_found (value_at f d) literals fits
      (moved a (λ v. is_one_of v literals) same e))
  tests_found (during a low high) h e =
      on_finds (is_date_in (value_at f d)) a d _
      (λ same. during_found (value_at f d) low high
      (moved a (λ v. lies_during v (literal.Date low) (literal.Date high)) same e))
  tests_found (before a at) h e =
      on_finds (is_date_in (value_at f d)) a d _
      (λ same. dated_found (value_at f d) Lt at
      (moved a (λ v. compares Lt v (literal.Date at)) same e))
  tests_found (after a at) h e =
      on_finds (is_date_in (value_at f d)) a d _
      (λ same. dated_found (value_at f d) Gt at
      (moved a (λ v. compares Gt v (literal.Date at)) same e))
  tests_found (tequals a at) h e =
      on_finds (is_date_in (value_at f d)) a d _
      (λ same. dated_found (value_at f d) Eq at
      (moved a (λ v. compares Eq v (literal.Date at)) same e))
  tests_found _ h e = tt

  rules_sound : IsSoundFor s f (is_date_in (value_at f d)) (interval_rules d)
  rules_sound = record {
    tests = tests_found;
    meets = meeting_finds (is_date_in (value_at f d)) is_void met joined (widens (value_at f d))
        true (λ _. full (value_at f d)) (λ _. narrows (value_at f d));
    counts = capped_finds (is_date_in (value_at f d)) joined (widens (value_at f d));
  }

pub found_in_intervals : (s : Specification) (t : Tree) (f : Feature) (d : ℕ)
    → value_fits kind.Date (value_at f d) ≡ true → Suits s t → is_true f t ≡ true
    → default_date_of s ≡ Some d
    → IsFound (is_date_in (value_at f d)) (intervals_of s t)
found_in_intervals s t f d fits suit e place =
    let Found : Option ℕ → Type 0 = λ o. IsFound (is_date_in (value_at f d)) (intervals_at o t) in
    subst Found (sym place)
    (found s f (is_date_in (value_at f d)) (interval_rules d) (rules_sound s f d fits) t suit e)
