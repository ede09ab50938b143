-- The lexicoded value of which a filter is true is in one of its ranges.
use Rattle.std.proofs.Common.{◌≡◌, ℕ, zero, suc, ◌<◌, Bool, true, false, not, [], ◌∷◌, ◌++◌, length}
use Rattle.std.proofs.Common.{take, refl, sym, ap, ◌∙◌, true≢false, Option, Some, None, subst}
use Rattle.std.proofs.lemmas.Bool.{and_parts, and_from, eqb-true, eq-eqb}
use Rattle.std.proofs.lemmas.Cmp.{nat_list_cmp_total, nat_cmp_total, tied_itself}
use Rattle.std.proofs.lemmas.Map.Text.{is_eq-slice_cmp}
use Rattle.std.specs.Prelude.{nat_eq, All}
use Rattle.std.specs.List.{starts_with}
use Rattle.std.specs.Ordering.{nat_cmp, ordering_then, is_le, is_lt, is_gt, is_ge, is_eq}
use Rattle.std.specs.Ordering.{ordering_reverse}
use Rattle.std.specs.declared.cmp.Ordering.{Ordering}
use Rattle.std.specs.declared.cmp.Ordering.TheVariants.{Less, Equal, Greater}
use Rattle.std.specs.Cmp.Lexicographic.{slice_cmp, bytes_decides}
use Rattle.gm_base.proofs.Numbers.{lt_is_le}
use Rattle.gm_lexi.specs.Ends.{after_of, is_before, is_from_to}
use Rattle.gm_filter.specs.declared.filter.Op.{Op}
use Rattle.gm_filter.specs.declared.filter.Op.TheVariants.{Eq, Ne, Lt, Le, Gt, Ge}
use Rattle.gm_filter.specs.Comparison.{passes}
use Rattle.gm_bounds.specs.ByteRange.{range, is_void, is_form_in}
use Rattle.gm_bounds.specs.Values.{ranging, ranging_from, beginning, compared_form}
use Rattle.gm_bounds.specs.Found.{IsFound}
use Rattle.gm_bounds.specs.Lists.{single}
use Rattle.gm_bounds.proofs.InOrder.{Bytes, C, le, le_trans, full}
use Rattle.gm_bounds.proofs.Sound.{single_finds}

-- bytes are under 256
abbrev pub AreBytes : Bytes → Type 0
AreBytes xs = All (λ byte. byte < 256) xs

-- what gm_lexi says of the ends of ranges
pub record EndLaws : Type 0 where
  pub begins : (bytes other : Bytes) → AreBytes other
      → starts_with nat_eq other bytes ≡ is_from_to bytes (after_of bytes) other
  pub front : (high other : Bytes) → AreBytes other
      → is_before (after_of high) other ≡ is_le (slice_cmp nat_cmp (take (length high) other) high)

-- ---- fronts

pub starts : (front rest : Bytes) → starts_with nat_eq (front ++ rest) front ≡ true
starts [] rest = refl
starts (b ∷ front) rest = and_from (nat_eq b b) _ (eq-eqb b b refl) (starts front rest)

pub begun : (front whole : Bytes) → starts_with nat_eq whole front ≡ true
    → (rest : Bytes) × (whole ≡ front ++ rest)
begun [] whole h = (whole, refl)
begun (b ∷ front) [] h = absurd (true≢false (sym h))
begun (b ∷ front) (x ∷ whole) h =
    let parts = and_parts (nat_eq b x) (starts_with nat_eq whole front) h in
    let later = begun front whole parts.1 in (
      later.0,
      let same : b ≡ x = eqb-true b x parts.0 in let tail : whole
          ≡ front ++ later.0 = later.1 in cc,
    )

-- a front stands before the whole
front_le : (n : ℕ) (whole : Bytes) → le (take n whole) whole ≡ true
front_le zero [] = refl
front_le zero (x ∷ whole) = refl
front_le (suc n) [] = refl
front_le (suc n) (x ∷ whole) =
    ap (λ o. is_le (ordering_then o (C (take n whole) whole))) (tied_itself nat_cmp_total x)
    ∙ front_le n whole

-- what compares as equal is the same
pub same_bytes : (a b : Bytes) → is_eq (C a b) ≡ true → a ≡ b
same_bytes a b h = (bytes_decides a b).0 (sym (is_eq-slice_cmp a b) ∙ h)

ge_back : (o : Ordering) → is_ge o ≡ true → is_le (ordering_reverse o) ≡ true
ge_back Less h = absurd (true≢false (sym h))
ge_back Equal h = refl
ge_back Greater h = refl

gt_back : (o : Ordering) → is_gt o ≡ true → is_le (ordering_reverse o) ≡ true
gt_back Less h = absurd (true≢false (sym h))
gt_back Equal h = absurd (true≢false (sym h))
gt_back Greater h = refl

lt_back : (o : Ordering) → is_lt o ≡ true → is_le (ordering_reverse o) ≡ false
lt_back Less h = refl
lt_back Equal h = absurd (true≢false (sym h))
lt_back Greater h = absurd (true≢false (sym h))

gt_not_equal : (o : Ordering) → is_gt o ≡ true → o ≡ Equal → ⊥
gt_not_equal o h e = true≢false (sym h ∙ ap is_gt e)

then_lt : (o p : Ordering) → is_lt o ≡ true → is_lt (ordering_then o p) ≡ true
then_lt Less p h = refl
then_lt Equal p h = absurd (true≢false (sym h))
then_lt Greater p h = absurd (true≢false (sym h))

then_gt : (o p : Ordering) → is_gt o ≡ true → is_gt (ordering_then o p) ≡ true
then_gt Less p h = absurd (true≢false (sym h))
then_gt Equal p h = absurd (true≢false (sym h))
then_gt Greater p h = refl

then_ge : (o p : Ordering) → is_ge o ≡ true → is_ge p ≡ true → is_ge (ordering_then o p) ≡ true
then_ge Less p h g = absurd (true≢false (sym h))
then_ge Equal p h g = g
then_ge Greater p h g = refl

-- nothing stands before the empty bytes
empty_first : (z : Bytes) → le [] z ≡ true
empty_first [] = refl
empty_first (x ∷ z) = refl

-- nor does anything stand behind what it begins
empty_behind : (z : Bytes) → is_ge (C z []) ≡ true
empty_behind [] = refl
empty_behind (x ∷ z) = refl

-- a form is no front of another, and the other none of it
abbrev pub IsApart : Bytes → Bytes → Type 0
IsApart z form = (more rest : Bytes) → z ++ more ≡ form ++ rest → C z form ≡ Equal

-- what follows a form counts only where the forms are one
abbrev pub IsOrdered : Bytes → Bytes → Type 0
IsOrdered z form = (more : Bytes) → C (z ++ more) form ≡ ordering_then (C z form) (C more [])

not_never : (b : Bool) → (not b ≡ true → ⊥) → b ≡ true
not_never true g = refl
not_never false g = absurd (g refl)

module _ (laws : EndLaws) where
  -- what begins so is in the range of what begins so
  pub beginning_holds : (front z : Bytes) → AreBytes z → (rest : Bytes) → z ≡ front ++ rest
      → is_from_to front (after_of front) z ≡ true
  beginning_holds front z bytes rest e =
      sym (laws.begins front z bytes)
      ∙ subst (λ w. starts_with nat_eq w front ≡ true) (sym e) (starts front rest)

  -- what stands before a form or is it, stands before the end of what begins with the form
  below_after : (form z : Bytes) → AreBytes z → le z form ≡ true
      → is_before (after_of form) z ≡ true
  below_after form z bytes h =
      laws.front form z bytes ∙ le_trans (take (length form) z) z form (front_le (length form) z) h

  ranging_finds : (z low : Bytes) (high : Option Bytes) → le low z ≡ true → is_before high z ≡ true
      → IsFound (is_form_in (Some z)) (ranging low high)
  ranging_finds z low high h g =
      let inside : is_from_to low high z ≡ true = and_from (le low z) _ h g in
      single_finds (is_form_in (Some z)) is_void (range low high)
      (full (Some z) (range low high) inside) inside

  pub beginning_finds : (front z : Bytes) → AreBytes z → (rest : Bytes) → z ≡ front ++ rest
      → IsFound (is_form_in (Some z)) (single is_void (beginning front))
  beginning_finds front z bytes rest e =
      let inside = beginning_holds front z bytes rest e in
      single_finds (is_form_in (Some z)) is_void (beginning front)
      (full (Some z) (beginning front) inside) inside

  from_there : (z : Bytes) (o : Option Bytes) → (is_before o z ≡ true → ⊥)
      → IsFound (is_form_in (Some z)) (ranging_from o)
  from_there z None never = absurd (never refl)
  from_there z (Some e) never = ranging_finds z e None (not_never (le e z) never) refl

-- a form with what follows it
module _ (laws : EndLaws) (z more : Bytes) (bytes : AreBytes (z ++ more)) where
  abbrev whole : Bytes
  whole = z ++ more

  whole_lt : (form : Bytes) → IsOrdered z form → is_lt (C z form) ≡ true
      → is_lt (C whole form) ≡ true
  whole_lt form order h = ap is_lt (order more) ∙ then_lt (C z form) (C more []) h

  whole_gt : (form : Bytes) → IsOrdered z form → is_gt (C z form) ≡ true
      → is_gt (C whole form) ≡ true
  whole_gt form order h = ap is_gt (order more) ∙ then_gt (C z form) (C more []) h

  whole_ge : (form : Bytes) → IsOrdered z form → is_ge (C z form) ≡ true
      → is_ge (C whole form) ≡ true
  whole_ge form order h =
      ap is_ge (order more) ∙ then_ge (C z form) (C more []) h (empty_behind more)

  from_form : (form : Bytes) → IsOrdered z form → is_ge (C z form) ≡ true → le form whole ≡ true
  from_form form order h =
      ap is_le (nat_list_cmp_total.antisymm form whole)
      ∙ ge_back (C whole form) (whole_ge form order h)

  to_form : (form : Bytes) → IsOrdered z form → is_lt (C z form) ≡ true
      → is_before (Some form) whole ≡ true
  to_form form order h =
      ap not (ap is_le (nat_list_cmp_total.antisymm form whole)
      ∙ lt_back (C whole form) (whole_lt form order h))

  to_after : (form : Bytes) → IsOrdered z form → (o : Ordering) → C z form ≡ o → is_le o ≡ true
      → is_before (after_of form) whole ≡ true
  to_after form order Less is h =
      below_after laws form whole bytes
      (lt_is_le (C whole form) (whole_lt form order (ap is_lt is)))
  to_after form order Equal is h =
      let same = ap (λ x. x ++ more) (same_bytes z form (ap is_eq is)) in
      (and_parts (le form whole) (is_before (after_of form) whole)
      (beginning_holds laws form whole bytes more same)).1
  to_after form order Greater is h = absurd (true≢false (sym h))

  -- what stands behind a form, and does not begin with it, is past all that begins with it
  past_after : (form : Bytes) → IsApart z form → IsOrdered z form → is_gt (C z form) ≡ true
      → (o : Option Bytes) → after_of form ≡ o → IsFound (is_form_in (Some whole)) (ranging_from o)
  past_after form apart order h o is =
      let behind : le form whole ≡ true =
      ap is_le (nat_list_cmp_total.antisymm form whole)
      ∙ gt_back (C whole form) (whole_gt form order h) in
      let not_before : is_before o whole ≡ true → ⊥ = λ (e : is_before o whole ≡ true).
      let inside : is_from_to form (after_of form) whole ≡ true =
      and_from (le form whole) _ behind (ap (λ p. is_before p whole) is ∙ e) in
      let front = begun form whole (laws.begins form whole bytes ∙ inside) in
      gt_not_equal (C z form) h (apart more front.0 front.1) in
      from_there laws whole o not_before

  -- where the form of a value compares so with that of a literal
  pub form_found : (op : Op) (form : Bytes) → IsApart z form → IsOrdered z form
      → passes op (C z form) ≡ true → IsFound (is_form_in (Some whole)) (compared_form op form)
  form_found Eq form apart order h =
      beginning_finds laws form whole bytes more (ap (λ x. x ++ more) (same_bytes z form h))
  form_found Ne form apart order h = tt
  form_found Lt form apart order h =
      ranging_finds laws whole [] (Some form) (empty_first whole) (to_form form order h)
  form_found Le form apart order h =
      ranging_finds laws whole [] (after_of form) (empty_first whole)
      (to_after form order (C z form) refl h)
  form_found Gt form apart order h = past_after form apart order h (after_of form) refl
  form_found Ge form apart order h =
      ranging_finds laws whole form None (from_form form order h) refl

  pub between_found : (low high : Bytes) → IsOrdered z low → IsOrdered z high
      → is_ge (C z low) ≡ true → is_le (C z high) ≡ true
      → IsFound (is_form_in (Some whole)) (ranging low (after_of high))
  between_found low high first last h g =
      ranging_finds laws whole low (after_of high) (from_form low first h)
      (to_after high last (C z high) refl g)

  pub from_to_found : (low high : Bytes) → IsOrdered z low → IsOrdered z high
      → is_ge (C z low) ≡ true → is_lt (C z high) ≡ true
      → IsFound (is_form_in (Some whole)) (ranging low (Some high))
  from_to_found low high first last h g =
      ranging_finds laws whole low (Some high) (from_form low first h) (to_form high last g)
