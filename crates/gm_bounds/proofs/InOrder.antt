-- Ranges of bytes, and what lies in them.
use Rattle.std.proofs.Common.{◌≡◌, ℕ, Bool, true, false, not, List, refl, sym, ap, ◌∙◌, true≢false}
use Rattle.std.proofs.Common.{inl, inr, Option, Some, None, cond}
use Rattle.std.proofs.lemmas.Bool.{and_parts, and_from, cases_Bool, not-true}
use Rattle.std.proofs.lemmas.Cmp.{nat_list_cmp_total, upto}
use Rattle.std.specs.Ordering.{nat_cmp, is_le, is_lt, is_gt, ordering_reverse}
use Rattle.std.specs.declared.cmp.Ordering.{Ordering}
use Rattle.std.specs.declared.cmp.Ordering.TheVariants.{Less, Equal, Greater}
use Rattle.std.specs.Cmp.Lexicographic.{slice_cmp}
use Rattle.gm_base.proofs.Numbers.{le_of_not_gt, lt_is_le}
use Rattle.gm_lexi.specs.Ends.{is_before, is_from_to}
use Rattle.gm_bounds.specs.declared.byte_range.ByteRange.{ByteRange}
use Rattle.gm_bounds.specs.ByteRange.{met, joined, is_void, is_void_to, is_less, less, greater}
use Rattle.gm_bounds.specs.ByteRange.{less_end, greater_end, is_form_in}
use Rattle.gm_bounds.proofs.Sound.{Widens, Narrows, AreFull}

abbrev pub Bytes : Type 0
Bytes = List ℕ

abbrev pub C : Bytes → Bytes → Ordering
C a b = slice_cmp nat_cmp a b

-- a stands before b, or is b
abbrev pub le : Bytes → Bytes → Bool
le a b = is_le (C a b)

le_not_gt : (o : Ordering) → is_le o ≡ true → is_gt o ≡ false
le_not_gt Less h = refl
le_not_gt Equal h = refl
le_not_gt Greater h = absurd (true≢false (sym h))

pub le_trans : (a b c : Bytes) → le a b ≡ true → le b c ≡ true → le a c ≡ true
le_trans a b c h g =
    le_of_not_gt (C a c) (upto nat_list_cmp_total a b c (le_not_gt (C a b) h) (le_not_gt (C b c) g))

not_lt_le : (o : Ordering) → is_lt o ≡ false → is_le (ordering_reverse o) ≡ true
not_lt_le Less h = absurd (true≢false h)
not_lt_le Equal h = refl
not_lt_le Greater h = refl

pub not_less : (a b : Bytes) → is_less a b ≡ false → le b a ≡ true
not_less a b h = ap is_le (nat_list_cmp_total.antisymm b a) ∙ not_lt_le (C a b) h

-- ---- ends

below_less_left : (b : Bool) (x y z : Bytes) → is_less y x ≡ b → le x z ≡ true
    → le (cond b y x) z ≡ true
below_less_left true x y z e h = le_trans y x z (lt_is_le (C y x) e) h
below_less_left false x y z e h = h

below_less_right : (b : Bool) (x y z : Bytes) → is_less y x ≡ b → le y z ≡ true
    → le (cond b y x) z ≡ true
below_less_right true x y z e h = h
below_less_right false x y z e h = le_trans x y z (not_less y x e) h

below_greater : (b : Bool) (x y z : Bytes) → le x z ≡ true → le y z ≡ true
    → le (cond b y x) z ≡ true
below_greater true x y z h g = g
below_greater false x y z h g = h

-- the end e is behind z
abbrev IsBehind : Bytes → Bytes → Type 0
IsBehind e z = not (le e z) ≡ true

behind_later : (d e z : Bytes) → le d e ≡ true → IsBehind d z → IsBehind e z
behind_later d e z h g = elim (cases_Bool (le e z)) [
  | inl past ↦ absurd (true≢false (sym (le_trans d e z h past) ∙ not-true (le d z) g))
  | inr before ↦ ap not before
]

greater_left : (b : Bool) (x y z : Bytes) → is_less x y ≡ b → IsBehind x z → IsBehind (cond b y x) z
greater_left true x y z e h = behind_later x y z (lt_is_le (C x y) e) h
greater_left false x y z e h = h

greater_right : (b : Bool) (x y z : Bytes) → is_less x y ≡ b → IsBehind y z
    → IsBehind (cond b y x) z
greater_right true x y z e h = h
greater_right false x y z e h = behind_later y x z (not_less x y e) h

less_both : (b : Bool) (x y z : Bytes) → IsBehind x z → IsBehind y z → IsBehind (cond b y x) z
less_both true x y z h g = g
less_both false x y z h g = h

end_left : (a b : Option Bytes) (z : Bytes) → is_before a z ≡ true
    → is_before (greater_end a b) z ≡ true
end_left None b z h = refl
end_left (Some x) None z h = refl
end_left (Some x) (Some y) z h = greater_left (is_less x y) x y z refl h

end_right : (a b : Option Bytes) (z : Bytes) → is_before b z ≡ true
    → is_before (greater_end a b) z ≡ true
end_right None b z h = refl
end_right (Some x) None z h = refl
end_right (Some x) (Some y) z h = greater_right (is_less x y) x y z refl h

end_both : (a b : Option Bytes) (z : Bytes) → is_before a z ≡ true → is_before b z ≡ true
    → is_before (less_end a b) z ≡ true
end_both None b z h g = g
end_both (Some x) None z h g = h
end_both (Some x) (Some y) z h g = less_both (is_less y x) x y z h g

-- ---- ranges

form_left : (z : Bytes) (r s : ByteRange) → is_from_to r.low r.high z ≡ true
    → is_from_to (joined r s).low (joined r s).high z ≡ true
form_left z r s h =
    let parts = and_parts (le r.low z) (is_before r.high z) h in
    and_from (le (less r.low s.low) z) _
    (below_less_left (is_less s.low r.low) r.low s.low z refl parts.0)
    (end_left r.high s.high z parts.1)

form_right : (z : Bytes) (r s : ByteRange) → is_from_to s.low s.high z ≡ true
    → is_from_to (joined r s).low (joined r s).high z ≡ true
form_right z r s h =
    let parts = and_parts (le s.low z) (is_before s.high z) h in
    and_from (le (less r.low s.low) z) _
    (below_less_right (is_less s.low r.low) r.low s.low z refl parts.0)
    (end_right r.high s.high z parts.1)

form_both : (z : Bytes) (r s : ByteRange) → is_from_to r.low r.high z ≡ true
    → is_from_to s.low s.high z ≡ true → is_from_to (met r s).low (met r s).high z ≡ true
form_both z r s h g =
    let one = and_parts (le r.low z) (is_before r.high z) h in
    let two = and_parts (le s.low z) (is_before s.high z) g in
    and_from (le (greater r.low s.low) z) _
    (below_greater (is_less r.low s.low) r.low s.low z one.0 two.0)
    (end_both r.high s.high z one.1 two.1)

form_full_to : (low : Bytes) (high : Option Bytes) (z : Bytes) → le low z ≡ true
    → is_before high z ≡ true → is_void_to low high ≡ false
form_full_to low None z h g = refl
form_full_to low (Some e) z h g = elim (cases_Bool (le e low)) [
  | inl past ↦ absurd (true≢false (sym (le_trans e low z past h) ∙ not-true (le e z) g))
  | inr before ↦ before
]

pub widens : (o : Option Bytes) → Widens (is_form_in o) joined
widens None = record { left = λ r s h. h; right = λ r s h. h }
widens (Some z) = record { left = form_left z; right = form_right z }

pub narrows : (o : Option Bytes) → Narrows (is_form_in o) met
narrows None r s h g = h
narrows (Some z) r s h g = form_both z r s h g

pub full : (o : Option Bytes) → AreFull (is_form_in o) is_void
full None r h = absurd (true≢false (sym h))
full (Some z) r h = let parts = and_parts (le r.low z) (is_before r.high z) h in
    form_full_to r.low r.high z parts.0 parts.1
