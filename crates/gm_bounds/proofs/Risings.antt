-- Lists of identifiers in byte order, each once.
use Rattle.std.proofs.Common.{◌≡◌, ◌≢◌, ℕ, zero, suc, ◌+◌, ◌<◌, ◌≤◌, Bool, true, false, ◌||◌, List}
use Rattle.std.proofs.Common.{[], ◌∷◌, ◌++◌, length, drop, get_or, refl, sym, ap, ◌∙◌, true≢false}
use Rattle.std.proofs.Common.{inl, inr, ◌⊎◌, cond, arith, subst, add-one, drop-cons, append_assoc}
use Rattle.std.proofs.Common.{append-nil}
use Rattle.std.proofs.lemmas.Bool.{or_left, cases_Bool}
use Rattle.std.proofs.lemmas.Cmp.{nat_list_cmp_total}
use Rattle.std.proofs.lemmas.List.Kept.{IsStrictlySortedBy-filter, IsStrictlySortedBy-dedup}
use Rattle.std.proofs.lemmas.List.Sorted.{list_any-IsPermutation}
use Rattle.std.proofs.lemmas.Map.Keys.{sorted_head, sorted_tail}
use Rattle.std.proofs.lemmas.Map.Text.{is_eq-slice_cmp}
use Rattle.std.specs.Prelude.{IsPermutation, IsSorted}
use Rattle.std.specs.List.{dedup, AllByRecursion}
use Rattle.std.specs.List.Sorted.{IsStrictlySortedBy}
use Rattle.std.specs.Ordering.{nat_cmp, is_eq, ordering_reverse}
use Rattle.std.specs.declared.cmp.Ordering.{Ordering}
use Rattle.std.specs.declared.cmp.Ordering.TheVariants.{Less, Equal, Greater}
use Rattle.std.specs.Cmp.Lexicographic.{slice_cmp, bytes_decides}
use Rattle.std.specs.Str.{bytes_eq}
use Rattle.gm_bounds.specs.Identifiers.{is_among, IsRising, put, put_by, sorted_once, common}
use Rattle.gm_bounds.proofs.InOrder.{Bytes, C}

equal_is : (a b : Bytes) → bytes_eq a b ≡ true → a ≡ b
equal_is a b h = (bytes_decides a b).0 h

equal_from : (a b : Bytes) → a ≡ b → bytes_eq a b ≡ true
equal_from a b h = (bytes_decides a b).1 h

itself : (a : Bytes) → bytes_eq a a ≡ true
itself a = equal_from a a refl

equal_by : (a b : Bytes) (o : Ordering) → C a b ≡ o → bytes_eq a b ≡ is_eq o
equal_by a b o h = sym (is_eq-slice_cmp a b) ∙ ap is_eq h

-- what stands before all is not among them
not_among : (x : Bytes) (ys : List Bytes) → AllByRecursion (λ y. C x y ≡ Less) ys
    → is_among ys x ≡ false
not_among x [] h = refl
not_among x (y ∷ ys) h = ap (λ b. b || is_among ys x) (equal_by x y Less h.0) ∙ not_among x ys h.1

before_all : (x y : Bytes) (ys : List Bytes) → C x y ≡ Less → AllByRecursion (λ z. C y z ≡ Less) ys
    → AllByRecursion (λ z. C x z ≡ Less) ys
before_all x y [] h g = tt
before_all x y (z ∷ ys) h g = (nat_list_cmp_total.trans x y z h g.0, before_all x y ys h g.1)

turned : (a b : Bytes) (o : Ordering) → C a b ≡ o → C b a ≡ ordering_reverse o
turned a b o h = nat_list_cmp_total.antisymm b a ∙ ap ordering_reverse h

rising_head : (x : Bytes) (xs : List Bytes) → IsRising (x ∷ xs)
    → AllByRecursion (λ y. C x y ≡ Less) xs
rising_head x xs h = sorted_head (slice_cmp nat_cmp) x xs h

pub rising_tail : (x : Bytes) (xs : List Bytes) → IsRising (x ∷ xs) → IsRising xs
rising_tail x xs h = sorted_tail (slice_cmp nat_cmp) x xs h

rising_from : (x : Bytes) (xs : List Bytes) → AllByRecursion (λ y. C x y ≡ Less) xs → IsRising xs
    → IsRising (x ∷ xs)
unfolding IsStrictlySortedBy
rising_from x xs h g = (h, g)

pub rising_none : IsRising []
unfolding IsStrictlySortedBy
rising_none = tt

-- ---- a list in order is told by what is among it

abbrev pub SameSet : List Bytes → List Bytes → Type 0
SameSet xs ys = (z : Bytes) → is_among xs z ≡ is_among ys z

same_tail : (x : Bytes) (xs ys : List Bytes) → IsRising (x ∷ xs) → IsRising (x ∷ ys)
    → SameSet (x ∷ xs) (x ∷ ys) → SameSet xs ys
same_tail x xs ys h g same z = elim (cases_Bool (bytes_eq z x)) [
  | inl is ↦ let one : z ≡ x = equal_is z x is in
      rw one (not_among x xs (rising_head x xs h) ∙ sym (not_among x ys (rising_head x ys g)))
  | inr other ↦ sym (ap (λ b. b || is_among xs z) other) ∙ same z
      ∙ ap (λ b. b || is_among ys z) other
]

-- a list that begins before another has what that has not
begins_before : (x y : Bytes) (xs ys : List Bytes) → C x y ≡ Less → IsRising (y ∷ ys)
    → SameSet (x ∷ xs) (y ∷ ys) → ⊥
begins_before x y xs ys less h same =
    let none : is_among (y ∷ ys) x ≡ false =
    not_among x (y ∷ ys) (less, before_all x y ys less (rising_head y ys h)) in
    true≢false (sym (or_left (bytes_eq x x) (is_among xs x) (itself x)) ∙ same x ∙ none)

one_list_by : (x y : Bytes) (xs ys : List Bytes) (o : Ordering) → C x y ≡ o → IsRising (x ∷ xs)
    → IsRising (y ∷ ys) → SameSet (x ∷ xs) (y ∷ ys)
    → ((zs : List Bytes) → IsRising xs → IsRising zs → SameSet xs zs → xs ≡ zs) → x ∷ xs ≡ y ∷ ys
one_list_by x y xs ys Less is h g same rest = absurd (begins_before x y xs ys is g same)
one_list_by x y xs ys Greater is h g same rest =
    absurd (begins_before y x ys xs (turned x y Greater is) h (λ z. sym (same z)))
one_list_by x y xs ys Equal is h g same rest =
    let one : y ≡ x = sym (equal_is x y (equal_by x y Equal is)) in
    let P : Bytes → Type 0 = λ w. IsRising (w ∷ ys) in
    let Q : Bytes → Type 0 = λ w. SameSet (x ∷ xs) (w ∷ ys) in
    let g' = subst P one g in
    let tails = rest ys (rising_tail x xs h) (rising_tail x ys g')
    (same_tail x xs ys h g' (subst Q one same)) in
    ap (λ zs. x ∷ zs) tails ∙ ap (λ w. w ∷ ys) (sym one)

pub one_list : (xs ys : List Bytes) → IsRising xs → IsRising ys → SameSet xs ys → xs ≡ ys
one_list [] [] h g same = refl
one_list [] (y ∷ ys) h g same =
    absurd (true≢false (sym (or_left (bytes_eq y y) (is_among ys y) (itself y)) ∙ sym (same y)))
one_list (x ∷ xs) [] h g same =
    absurd (true≢false (sym (or_left (bytes_eq x x) (is_among xs x) (itself x)) ∙ same x))
one_list (x ∷ xs) (y ∷ ys) h g same =
    one_list_by x y xs ys (C x y) refl h g same (λ zs. one_list xs zs)

-- ---- in order, each once

among_put_by : (o : Ordering) (x y z : Bytes) (ys more : List Bytes) → C x y ≡ o
    → is_among more z ≡ (bytes_eq z x || is_among ys z)
    → is_among (put_by o x y ys more) z ≡ (bytes_eq z x || (bytes_eq z y || is_among ys z))
among_put_by Less x y z ys more is h = refl
among_put_by Equal x y z ys more is h =
    let one : x ≡ y = equal_is x y (equal_by x y Equal is) in
    rw one (twice (bytes_eq z y) (is_among ys z))
  where
    twice : (b c : Bool) → (b || c) ≡ (b || (b || c))
    twice true c = refl
    twice false c = refl
among_put_by Greater x y z ys more is h =
    ap (λ b. bytes_eq z y || b) h ∙ swapped (bytes_eq z y) (bytes_eq z x) (is_among ys z)
  where
    swapped : (a b c : Bool) → (a || (b || c)) ≡ (b || (a || c))
    swapped true true c = refl
    swapped true false c = refl
    swapped false b c = refl

among_put : (x z : Bytes) (ys : List Bytes)
    → is_among (put x ys) z ≡ (bytes_eq z x || is_among ys z)
among_put x z [] = refl
among_put x z (y ∷ ys) = among_put_by (C x y) x y z ys (put x ys) refl (among_put x z ys)

pub among_sorted : (xs : List Bytes) (z : Bytes) → is_among (sorted_once xs) z ≡ is_among xs z
among_sorted [] z = refl
among_sorted (x ∷ xs) z =
    among_put x z (sorted_once xs) ∙ ap (λ b. bytes_eq z x || b) (among_sorted xs z)

behind_put_by : (o : Ordering) (w x y : Bytes) (ys more : List Bytes) → C w x ≡ Less → C w y ≡ Less
    → AllByRecursion (λ z. C w z ≡ Less) ys → AllByRecursion (λ z. C w z ≡ Less) more
    → AllByRecursion (λ z. C w z ≡ Less) (put_by o x y ys more)
behind_put_by Less w x y ys more h g all rest = (h, (g, all))
behind_put_by Equal w x y ys more h g all rest = (g, all)
behind_put_by Greater w x y ys more h g all rest = (g, rest)

behind_put : (w x : Bytes) (ys : List Bytes) → C w x ≡ Less → AllByRecursion (λ z. C w z ≡ Less) ys
    → AllByRecursion (λ z. C w z ≡ Less) (put x ys)
behind_put w x [] h all = (h, tt)
behind_put w x (y ∷ ys) h all =
    behind_put_by (C x y) w x y ys (put x ys) h all.0 all.1 (behind_put w x ys h all.1)

rising_put_by : (o : Ordering) (x y : Bytes) (ys more : List Bytes) → C x y ≡ o → IsRising (y ∷ ys)
    → AllByRecursion (λ z. C y z ≡ Less) more ⊎ (C y x ≢ Less) → IsRising more
    → IsRising (put_by o x y ys more)
rising_put_by Less x y ys more is h rest up =
    rising_from x (y ∷ ys) (is, before_all x y ys is (rising_head y ys h)) h
rising_put_by Equal x y ys more is h rest up = h
rising_put_by Greater x y ys more is h (inl all) up = rising_from y more all up
rising_put_by Greater x y ys more is h (inr never) up = absurd (never (turned x y Greater is))

less_or_not : (o : Ordering) → (o ≡ Less) ⊎ (o ≢ Less)
less_or_not Less = inl refl
less_or_not Equal = inr (λ e. absurd (cc))
less_or_not Greater = inr (λ e. absurd (cc))

rising_put : (x : Bytes) (ys : List Bytes) → IsRising ys → IsRising (put x ys)
rising_put x [] h = rising_from x [] tt rising_none
rising_put x (y ∷ ys) h =
    rising_put_by (C x y) x y ys (put x ys) refl h
    (elim (less_or_not (C y x))
    [ inl less ↦ inl (behind_put y x ys less (rising_head y ys h)) | inr never ↦ inr never ])
    (rising_put x ys (rising_tail y ys h))

pub rising_sorted : (xs : List Bytes) → IsRising (sorted_once xs)
rising_sorted [] = rising_none
rising_sorted (x ∷ xs) = rising_put x (sorted_once xs) (rising_sorted xs)

among_dedup_by : (same : Bool) (k x z : Bytes) (xs one other : List Bytes) → bytes_eq x k ≡ same
    → is_among one z ≡ (bytes_eq z k || is_among xs z)
    → is_among other z ≡ (bytes_eq z x || is_among xs z)
    → is_among (cond same one (k ∷ other)) z ≡ (bytes_eq z k || (bytes_eq z x || is_among xs z))
among_dedup_by true k x z xs one other is h g =
    let same : x ≡ k = equal_is x k is in
    rw same (h ∙ twice (bytes_eq z k) (is_among xs z))
  where
    twice : (b c : Bool) → (b || c) ≡ (b || (b || c))
    twice true c = refl
    twice false c = refl
among_dedup_by false k x z xs one other is h g = ap (λ b. bytes_eq z k || b) g

module _ where
  abbrev from : Bytes → List Bytes → List Bytes
  from k xs = dedup bytes_eq (k ∷ xs)

  among_from : (k z : Bytes) (xs : List Bytes)
      → is_among (from k xs) z ≡ (bytes_eq z k || is_among xs z)
  among_from k z [] = refl
  among_from k z (x ∷ xs) =
      among_dedup_by (bytes_eq x k) k x z xs (from k xs) (from x xs) refl (among_from k z xs)
      (among_from x z xs)

  pub among_dedup : (xs : List Bytes) (z : Bytes) → is_among (dedup bytes_eq xs) z ≡ is_among xs z
  among_dedup [] z = refl
  among_dedup (x ∷ xs) z = among_from x z xs

-- what a sort leaves, without what comes again, is the list in order, each once
pub sorted_is : (before after : List Bytes) → IsPermutation before after
    → IsSorted (slice_cmp nat_cmp) after → dedup bytes_eq after ≡ sorted_once before
sorted_is before after moved up =
    one_list (dedup bytes_eq after) (sorted_once before)
    (IsStrictlySortedBy-dedup nat_list_cmp_total (λ x y. sym (is_eq-slice_cmp x y)) after up)
    (rising_sorted before)
    (λ z. among_dedup after z ∙ sym (list_any-IsPermutation (bytes_eq z) before after moved)
    ∙ sym (among_sorted before z))

-- ---- in both

pub rising_common : (xs ys : List Bytes) → IsRising xs → IsRising (common xs ys)
rising_common xs ys h = IsStrictlySortedBy-filter (slice_cmp nat_cmp) (is_among ys) xs h

common_none : (xs : List Bytes) → common xs [] ≡ []
common_none [] = refl
common_none (x ∷ xs) = common_none xs

-- one that stands before all that is left of the one list is not needed there
common_later : (y : Bytes) (xs ys : List Bytes) → AllByRecursion (λ x. C y x ≡ Less) xs
    → common xs (y ∷ ys) ≡ common xs ys
common_later y [] ys h = refl
common_later y (x ∷ xs) ys h =
    let apart : bytes_eq x y ≡ false = equal_by x y Greater (turned y x Less h.0) in
    let rest = common_later y xs ys h.1 in
    ap (λ b. cond (b || is_among ys x) (x ∷ common xs (y ∷ ys)) (common xs (y ∷ ys))) apart
    ∙ ap (λ zs. cond (is_among ys x) (x ∷ zs) zs) rest

common_less : (x y : Bytes) (xs ys : List Bytes) → C x y ≡ Less → IsRising (y ∷ ys)
    → common (x ∷ xs) (y ∷ ys) ≡ common xs (y ∷ ys)
common_less x y xs ys less h =
    let none : is_among (y ∷ ys) x ≡ false =
    not_among x (y ∷ ys) (less, before_all x y ys less (rising_head y ys h)) in
    ap (λ b. cond b (x ∷ common xs (y ∷ ys)) (common xs (y ∷ ys))) none

common_greater : (x y : Bytes) (xs ys : List Bytes) → C x y ≡ Greater → IsRising (x ∷ xs)
    → common (x ∷ xs) (y ∷ ys) ≡ common (x ∷ xs) ys
common_greater x y xs ys greater h =
    let less : C y x ≡ Less = turned x y Greater greater in
    common_later y (x ∷ xs) ys (less, before_all y x xs less (rising_head x xs h))

common_equal : (x y : Bytes) (xs ys : List Bytes) → C x y ≡ Equal → IsRising (x ∷ xs)
    → common (x ∷ xs) (y ∷ ys) ≡ x ∷ common xs ys
common_equal x y xs ys equal h =
    let same : bytes_eq x y ≡ true = equal_by x y Equal equal in
    let one : x ≡ y = equal_is x y same in
    let P : Bytes → Type 0 = λ w. AllByRecursion (λ z. C w z ≡ Less) xs in
    ap (λ b. cond b (x ∷ common xs (y ∷ ys)) (common xs (y ∷ ys))) (or_left _ (is_among ys x) same)
    ∙ ap (λ zs. x ∷ zs) (common_later y xs ys (subst P one (rising_head x xs h)))

-- ---- the walk

rising_drop : (xs : List Bytes) (i : ℕ) → IsRising xs → IsRising (drop i xs)
rising_drop xs zero h = h
rising_drop [] (suc i) h = h
rising_drop (x ∷ xs) (suc i) h = rising_drop xs i (rising_tail x xs h)

there : (xs : List Bytes) (i : ℕ) (x : Bytes) → i < length xs → x ≡ get_or xs i x
    → drop i xs ≡ x ∷ drop (i + 1) xs
there xs i x within is =
    drop-cons xs i x within ∙ ap (λ y. y ∷ drop (suc i) xs) (sym is)
    ∙ ap (λ n. x ∷ drop n xs) (sym (add-one i))

-- how far the walk has come
pub record HasWalked (ones others met : List Bytes) (i j : ℕ) : Type 0 where
  pub same : met ++ common (drop i ones) (drop j others) ≡ common ones others

module _ (ones others met : List Bytes) (i j : ℕ) (x y : Bytes) (up : IsRising ones)
    (up_too : IsRising others) (within : i < length ones) (within_too : j < length others)
    (is : x ≡ get_or ones i x) (is_too : y ≡ get_or others j y)
    (h : HasWalked ones others met i j) where
  at_x : drop i ones ≡ x ∷ drop (i + 1) ones
  at_x = there ones i x within is

  at_y : drop j others ≡ y ∷ drop (j + 1) others
  at_y = there others j y within_too is_too

  rises_x : IsRising (x ∷ drop (i + 1) ones)
  rises_x = subst IsRising at_x (rising_drop ones i up)

  rises_y : IsRising (y ∷ drop (j + 1) others)
  rises_y = subst IsRising at_y (rising_drop others j up_too)

  both_at : common (drop i ones) (drop j others)
      ≡ common (x ∷ drop (i + 1) ones) (y ∷ drop (j + 1) others)
  both_at = ap (λ xs. common xs (drop j others)) at_x
      ∙ ap (λ ys. common (x ∷ drop (i + 1) ones) ys) at_y

  pub past_one : C x y ≡ Less → HasWalked ones others met (i + 1) j
  past_one less =
      record {
        same =
            ap (λ zs. met ++ zs)
            (sym (both_at ∙ common_less x y _ _ less rises_y
            ∙ ap (common (drop (i + 1) ones)) (sym at_y))) ∙ h.same;
      }

  pub past_other : C x y ≡ Greater → HasWalked ones others met i (j + 1)
  past_other greater =
      record {
        same =
            ap (λ zs. met ++ zs)
            (sym (both_at ∙ common_greater x y _ _ greater rises_x
            ∙ ap (λ xs. common xs (drop (j + 1) others)) (sym at_x))) ∙ h.same;
      }

  pub past_both : C x y ≡ Equal → HasWalked ones others (met ++ x ∷ []) (i + 1) (j + 1)
  past_both equal =
      record {
        same = append_assoc met (x ∷ []) (common (drop (i + 1) ones) (drop (j + 1) others))
            ∙ ap (λ zs. met ++ zs) (sym (both_at ∙ common_equal x y _ _ equal rises_x)) ∙ h.same;
      }

drop_past : (xs : List Bytes) (i : ℕ) → length xs ≤ i → drop i xs ≡ []
drop_past [] zero h = refl
drop_past [] (suc i) h = refl
drop_past (x ∷ xs) zero h = absurd (omega arith)
drop_past (x ∷ xs) (suc i) h = drop_past xs i (omega arith)

pub walked_ones : (ones others met : List Bytes) (i j : ℕ) → length ones ≤ i
    → HasWalked ones others met i j → met ≡ common ones others
walked_ones ones others met i j past h =
    sym (append-nil met)
    ∙ ap (λ zs. met ++ zs) (sym (ap (λ xs. common xs (drop j others)) (drop_past ones i past)))
    ∙ h.same

pub walked_others : (ones others met : List Bytes) (i j : ℕ) → length others ≤ j
    → HasWalked ones others met i j → met ≡ common ones others
walked_others ones others met i j past h =
    sym (append-nil met)
    ∙ ap (λ zs. met ++ zs)
    (sym (ap (common (drop i ones)) (drop_past others j past) ∙ common_none (drop i ones)))
    ∙ h.same

pub one_element : (xs : List Bytes) (i : ℕ) (x w : Bytes) → i < length xs → x ≡ get_or xs i x
    → w ≡ get_or xs i w → x ≡ w
one_element xs i x w within is too =
    let one : drop i xs ≡ x ∷ drop (i + 1) xs = there xs i x within is in
    let two : drop i xs ≡ w ∷ drop (i + 1) xs = there xs i w within too in
    let both : x ∷ drop (i + 1) xs ≡ w ∷ drop (i + 1) xs = sym one ∙ two in
    cc
