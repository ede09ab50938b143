-- Spans of which each shares no key with a later one have no key in common.
use Rattle.std.proofs.Common.{◌≡◌, ℕ, ◌+◌, ◌≤◌, Bool, true, false, not, ◌&&◌, List, []}
use Rattle.std.proofs.Common.{◌∷◌, ◌++◌, refl, sym, ap, ◌∙◌, true≢false, arith}
use Rattle.std.specs.Prelude.{if◌then◌else◌}
use Rattle.std.specs.List.{AllByRecursion}
use Rattle.std.proofs.lemmas.Cmp.{nat_list_cmp_total}
use Rattle.std.specs.Ordering.{nat_cmp, is_le, ordering_reverse}
use Rattle.std.specs.declared.cmp.Ordering.{Ordering}
use Rattle.std.specs.declared.cmp.Ordering.TheVariants.{Less, Equal, Greater}
use Rattle.std.specs.Cmp.Lexicographic.{slice_cmp}
use Rattle.gm_base.proofs.Lists.{all_append}
use Rattle.gm_base.proofs.Booleans.{false_of_never}
use Rattle.gm_base.specs.Spans.{Span}
use Rattle.gm_table.specs.Apart.{times_inside, AreApart}
use Rattle.gm_table.specs.Sorted.{is_within}

abbrev pub C : List ℕ → List ℕ → Ordering
C a b = slice_cmp nat_cmp a b

-- ---- order
pub turned : (a b : List ℕ) (o : Ordering) → C a b ≡ o → C b a ≡ ordering_reverse o
turned a b o h = nat_list_cmp_total.antisymm b a ∙ ap ordering_reverse h

pub less_then_le : (a b c : List ℕ) (o : Ordering) → C a b ≡ Less → C b c ≡ o → is_le o ≡ true
    → C a c ≡ Less
less_then_le a b c Less h e le = nat_list_cmp_total.trans a b c h e
less_then_le a b c Equal h e le =
    nat_list_cmp_total.antisymm a c
    ∙ ap ordering_reverse (sym (nat_list_cmp_total.congr b c a e) ∙ turned a b Less h)
less_then_le a b c Greater h e le = absurd (true≢false (sym le))

le_trans_by : (a b c : List ℕ) (o : Ordering) → C a b ≡ o → is_le o ≡ true → is_le (C b c) ≡ true
    → is_le (C a c) ≡ true
le_trans_by a b c Less e le h = ap is_le (less_then_le a b c (C b c) e refl h)
le_trans_by a b c Equal e le h = ap is_le (nat_list_cmp_total.congr a b c e) ∙ h
le_trans_by a b c Greater e le h = absurd (true≢false (sym le))

pub le_trans : (a b c : List ℕ) → is_le (C a b) ≡ true → is_le (C b c) ≡ true → is_le (C a c) ≡ true
le_trans a b c h g = le_trans_by a b c (C a b) refl h g

le_or_by : (a b : List ℕ) (o : Ordering) → C a b ≡ o → is_le o ≡ false → is_le (C b a) ≡ true
le_or_by a b Less e h = absurd (true≢false h)
le_or_by a b Equal e h = absurd (true≢false h)
le_or_by a b Greater e h = ap is_le (turned a b Greater e)

-- ---- what is in a half-open span
both_true : (a b : Bool) → (a && not b) ≡ true → (a ≡ true) × (b ≡ false)
both_true true true h = absurd (true≢false (sym h))
both_true true false h = (refl, refl)
both_true false b h = absurd (true≢false (sym h))

-- ---- two spans
pub record Excludes (a b : Span) : Type 0 where
  pub never : (key : List ℕ) → is_within a.0 a.1 key ≡ true → is_within b.0 b.1 key ≡ false

-- the one ends before the other begins, or where it begins
pub rising : (a b : Span) → is_le (C a.1 b.0) ≡ true → Excludes a b
rising a b h = record {
  never = λ key within. first_false (is_le (C b.0 key)) (is_le (C b.1 key))
      (λ low. true≢false
      (sym (le_trans a.1 b.0 key h low)
      ∙ (both_true (is_le (C a.0 key)) (is_le (C a.1 key)) within).1));
}
  where
    first_false : (p q : Bool) → (p ≡ true → ⊥) → (p && not q) ≡ false
    first_false true q h = absurd (h refl)
    first_false false q h = refl

-- the low end of neither is within the other
lows_by : (a b : Span) (o : Bool) → is_le (C a.0 b.0) ≡ o → is_within a.0 a.1 b.0 ≡ false
    → is_within b.0 b.1 a.0 ≡ false
    → (key : List ℕ) → is_within a.0 a.1 key ≡ true → is_within b.0 b.1 key ≡ true → ⊥
lows_by a b true o h g key within within' =
    let one = both_true (is_le (C a.0 key)) (is_le (C a.1 key)) within in
    let two = both_true (is_le (C b.0 key)) (is_le (C b.1 key)) within' in
    behind (is_le (C a.0 b.0)) (is_le (C a.1 b.0)) o h
    (λ high. true≢false (sym (le_trans a.1 b.0 key high two.0) ∙ one.1))
  where
    behind : (p q : Bool) → p ≡ true → (p && not q) ≡ false → (q ≡ true → ⊥) → ⊥
    behind p true e h k = k refl
    behind true false e h k = true≢false h
    behind false false e h k = true≢false (sym e)
lows_by a b false o h g key within within' =
    let one = both_true (is_le (C a.0 key)) (is_le (C a.1 key)) within in
    let two = both_true (is_le (C b.0 key)) (is_le (C b.1 key)) within' in
    behind (is_le (C b.0 a.0)) (is_le (C b.1 a.0)) (le_or_by a.0 b.0 (C a.0 b.0) refl o) g
    (λ high. true≢false (sym (le_trans b.1 a.0 key high one.0) ∙ two.1))
  where
    behind : (p q : Bool) → p ≡ true → (p && not q) ≡ false → (q ≡ true → ⊥) → ⊥
    behind p true e h k = k refl
    behind true false e h k = true≢false h
    behind false false e h k = true≢false (sym e)

pub lows : (a b : Span) → is_within a.0 a.1 b.0 ≡ false → is_within b.0 b.1 a.0 ≡ false
    → Excludes a b
lows a b h g = record {
  never = λ key within. false_of_never (is_within b.0 b.1 key)
      (λ within'. lows_by a b (is_le (C a.0 b.0)) refl h g key within within');
}

-- ---- lists of spans
abbrev pub AreExclusive : List Span → Type 0
AreExclusive [] = Unit {0}
AreExclusive (x ∷ xs) = AllByRecursion (λ y. Excludes x y) xs × AreExclusive xs

nothing_more : (n : ℕ) → n ≡ 0 → 0 + n ≡ 0
nothing_more n h = omega arith

none_after : (key : List ℕ) (x : Span) (xs : List Span) → AllByRecursion (λ y. Excludes x y) xs
    → is_within x.0 x.1 key ≡ true → times_inside key xs ≡ 0
none_after key x [] h within = refl
none_after key x (y ∷ ys) h within =
    ap (λ b. (if b then 1 else 0) + times_inside key ys) (h.0.never key within)
    ∙ nothing_more (times_inside key ys) (none_after key x ys h.1 within)

few_by : (b : Bool) (n : ℕ) → (b ≡ true → n ≡ 0) → n ≤ 1 → (if b then 1 else 0) + n ≤ 1
few_by true n h g = let e = h refl in omega arith
few_by false n h g = omega arith

pub exclusive_are_apart : (xs : List Span) → AreExclusive xs → AreApart xs
exclusive_are_apart [] h key = omega arith
exclusive_are_apart (x ∷ xs) h key =
    few_by (is_within x.0 x.1 key) (times_inside key xs) (none_after key x xs h.0)
    (exclusive_are_apart xs h.1 key)

pub exclusive_append : (xs ys : List Span) → AreExclusive xs → AreExclusive ys
    → AllByRecursion (λ x. AllByRecursion (λ y. Excludes x y) ys) xs → AreExclusive (xs ++ ys)
exclusive_append [] ys h g cross = g
exclusive_append (x ∷ xs) ys h g cross =
    (all_append (λ y. Excludes x y) xs ys h.0 cross.0, exclusive_append xs ys h.1 g cross.1)
