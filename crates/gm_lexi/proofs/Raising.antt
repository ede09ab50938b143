-- The end of the strings that begin with given bytes.
use Rattle.std.proofs.Common.{◌≡◌, ◌<◌, ◌≤◌, ℕ, zero, suc, ◌+◌, ◌≢◌, Bool, true, false, cond, not}
use Rattle.std.proofs.Common.{◌&&◌, List, [], ◌∷◌, ◌++◌, Option, Some, None, nat_eq, ◌-◌, length}
use Rattle.std.proofs.Common.{take, take_all, slice_index, replicate, refl, sym, ap, ◌∙◌, arith}
use Rattle.std.proofs.Common.{⊎_elim}
use Rattle.std.proofs.lemmas.List.{take_more}
use Rattle.std.proofs.lemmas.Bool.{cases_eq, cases_order}
use Rattle.std.proofs.lemmas.Bool.Decides.{nat_tests}
use Rattle.std.specs.List.{AllByRecursion, starts_with}
use Rattle.std.specs.Ordering.{nat_cmp, ordering_then, is_le}
use Rattle.std.specs.Cmp.Lexicographic.{slice_cmp}
use Rattle.std.specs.declared.cmp.Ordering.{Ordering}
use Rattle.std.specs.declared.cmp.Ordering.TheVariants.{Less, Equal, Greater}
use Rattle.gm_base.proofs.Numbers.{not_full, is_less, is_greater, is_equal, none_is_least}
use Rattle.gm_lexi.specs.Ends.{raised, after_of, is_before, is_from_to}

-- ---- as told
full_is : (byte : ℕ) → byte ≡ 255 → nat_eq byte 255 ≡ true
full_is byte is = grind (arith, nat_tests)

pub all_full : (n : ℕ) → after_of (replicate n 255) ≡ None
all_full zero = refl
all_full (suc n) = ap (raised 255) (all_full n)

pub raised_last : (front : List ℕ) (byte n : ℕ) → byte ≢ 255
    → after_of (front ++ byte ∷ replicate n 255) ≡ Some (front ++ (byte + 1) ∷ [])
raised_last [] byte n isnt =
    ap (raised byte) (all_full n)
    ∙ ap (λ t. cond t None (Some ((byte + 1) ∷ []))) (not_full byte isnt)
raised_last (x ∷ front) byte n isnt = ap (raised x) (raised_last front byte n isnt)

-- a byte 0xFF at the end does not count
pub without_last : (front : List ℕ) → after_of (front ++ 255 ∷ []) ≡ after_of front
without_last [] = refl
without_last (x ∷ front) = ap (raised x) (without_last front)

-- behind one first byte the end is that of what follows
behind : (x y : ℕ) (e : Option (List ℕ)) (other : List ℕ) → x ≡ y
    → is_before (raised x e) (y ∷ other) ≡ is_before e other
behind x y (Some rest) other same =
    ap (λ r. not (is_le (ordering_then r (slice_cmp nat_cmp rest other)))) (is_equal x y same)
behind x y None other same = ⊎_elim
    (λ full. ap (λ t. is_before (cond t None (Some ((x + 1) ∷ []))) (y ∷ other)) (full_is x full))
    (λ isnt. ap (λ t. is_before (cond t None (Some ((x + 1) ∷ []))) (y ∷ other)) (not_full x isnt)
    ∙ ap (λ r. not (is_le (ordering_then r (slice_cmp nat_cmp [] other))))
    (is_greater (x + 1) y (omega arith)))
    (cases_eq x 255)

-- a greater first byte is past the end
past : (x y : ℕ) (e : Option (List ℕ)) (other : List ℕ) → x < y → y < 256
    → is_before (raised x e) (y ∷ other) ≡ false
past x y (Some rest) other less small =
    ap (λ r. not (is_le (ordering_then r (slice_cmp nat_cmp rest other)))) (is_less x y less)
past x y None other less small =
    ap (λ t. is_before (cond t None (Some ((x + 1) ∷ []))) (y ∷ other)) (not_full x (omega arith))
    ∙ ⊎_elim
    (λ same. ap (λ r. not (is_le (ordering_then r (slice_cmp nat_cmp [] other))))
    (is_equal (x + 1) y same) ∙ ap not (none_is_least other))
    (λ isnt. ap (λ r. not (is_le (ordering_then r (slice_cmp nat_cmp [] other))))
    (is_less (x + 1) y (omega arith)))
    (cases_eq (x + 1) y)

eq_is : (x y : ℕ) → x ≡ y → nat_eq x y ≡ true
eq_is x y is = grind (arith, nat_tests)

eq_isnt : (x y : ℕ) → x ≢ y → nat_eq x y ≡ false
eq_isnt x y isnt = grind (arith, nat_tests)

by_first : (x y : ℕ) (s : Bool) (q : Ordering) (e : Option (List ℕ)) (other : List ℕ) → y < 256
    → s ≡ (is_le q && is_before e other)
    → (nat_eq x y && s)
    ≡ (is_le (ordering_then (nat_cmp x y) q) && is_before (raised x e) (y ∷ other))
by_first x y s q e other small rest =
    let end = is_before (raised x e) (y ∷ other) in
    ⊎_elim
    (λ same. ap (λ t. t && s) (eq_is x y same) ∙ rest
    ∙ ap (λ t. is_le q && t) (sym (behind x y e other same))
    ∙ ap (λ r. is_le (ordering_then r q) && end) (sym (is_equal x y same)))
    (⊎_elim
    (λ less. ap (λ t. t && s) (eq_isnt x y (omega arith)) ∙ sym (past x y e other less small)
    ∙ ap (λ r. is_le (ordering_then r q) && end) (sym (is_less x y less)))
    (λ more. ap (λ t. t && s) (eq_isnt x y (omega arith))
    ∙ ap (λ r. is_le (ordering_then r q) && end) (sym (is_greater x y more))))
    (cases_order x y)

pub within : (bytes other : List ℕ)
    → AllByRecursion (λ byte. byte < 256) (take (length bytes) other)
    → starts_with nat_eq other bytes ≡ is_from_to bytes (after_of bytes) other
within [] [] small = refl
within [] (y ∷ other) small = refl
within (x ∷ bytes) [] small = refl
within (x ∷ bytes) (y ∷ other) small =
    by_first x y (starts_with nat_eq other bytes) (slice_cmp nat_cmp bytes other) (after_of bytes)
    other small.0 (within bytes other small.1)

-- ---- the bytes without those at the end
pub shorter : (bytes : List ℕ) (end : ℕ) → 0 < end → end ≤ length bytes
    → slice_index bytes (end - 1) ≡ 255 → after_of (take end bytes) ≡ after_of bytes
    → after_of (take (end - 1) bytes) ≡ after_of bytes
shorter bytes end some within last same =
    let k = end - 1 in
    let is : k + 1 ≡ end = omega arith in
    let split : take end bytes ≡ take k bytes ++ 255 ∷ [] =
    ap (λ (n : ℕ). take n bytes) (sym is) ∙ take_more bytes k 0 (omega arith)
    ∙ ap (λ (x : ℕ). take k bytes ++ x ∷ []) last in
    sym (ap after_of split ∙ without_last (take k bytes)) ∙ same

pub raised_end : (bytes : List ℕ) → 0 < length bytes → slice_index bytes (length bytes - 1) < 255
    → after_of bytes
    ≡ Some (take (length bytes - 1) bytes ++ (slice_index bytes (length bytes - 1) + 1) ∷ [])
raised_end bytes some small =
    let k = length bytes - 1 in
    let last = slice_index bytes k in
    let is : k + 1 ≡ length bytes = omega arith in
    let whole : bytes ≡ take k bytes ++ last ∷ [] =
    sym (take_all (length bytes) bytes (omega arith)) ∙ ap (λ (n : ℕ). take n bytes) (sym is)
    ∙ take_more bytes k 0 (omega arith) in
    ap after_of whole ∙ raised_last (take k bytes) last 0 (omega arith)

-- ---- the front of the bytes' length decides
lower_first : (x y : ℕ) (e : Option (List ℕ)) (other : List ℕ) → y < x
    → is_before (raised x e) (y ∷ other) ≡ true
lower_first x y (Some rest) other lower =
    ap (λ r. not (is_le (ordering_then r (slice_cmp nat_cmp rest other)))) (is_greater x y lower)
lower_first x y None other lower = ⊎_elim
    (λ full. ap (λ t. is_before (cond t None (Some ((x + 1) ∷ []))) (y ∷ other)) (full_is x full))
    (λ isnt. ap (λ t. is_before (cond t None (Some ((x + 1) ∷ []))) (y ∷ other)) (not_full x isnt)
    ∙ ap (λ r. not (is_le (ordering_then r (slice_cmp nat_cmp [] other))))
    (is_greater (x + 1) y (omega arith)))
    (cases_eq x 255)

before_none : (x : ℕ) (e : Option (List ℕ)) → is_before (raised x e) [] ≡ true
before_none x (Some rest) = refl
before_none x None =
    elim (nat_eq x 255) as (λ t. is_before (cond t None (Some ((x + 1) ∷ []))) [] ≡ true)
    [ true ↦ refl | false ↦ refl ]

pub high_by_front : (high other : List ℕ)
    → AllByRecursion (λ byte. byte < 256) (take (length high) other)
    → is_before (after_of high) other ≡ is_le (slice_cmp nat_cmp (take (length high) other) high)
high_by_front [] other small = refl
high_by_front (x ∷ high) [] small = before_none x (after_of high)
high_by_front (x ∷ high) (y ∷ other) small =
    let later = slice_cmp nat_cmp (take (length high) other) high in
    ⊎_elim
    (λ same. behind x y (after_of high) other same ∙ high_by_front high other small.1
    ∙ ap (λ r. is_le (ordering_then r later)) (sym (is_equal y x (sym same))))
    (⊎_elim
    (λ less. past x y (after_of high) other less small.0
    ∙ ap (λ r. is_le (ordering_then r later)) (sym (is_greater y x less)))
    (λ more. lower_first x y (after_of high) other more
    ∙ ap (λ r. is_le (ordering_then r later)) (sym (is_less y x more))))
    (cases_order x y)

pub low_by_front : (low other : List ℕ)
    → is_le (slice_cmp nat_cmp low other) ≡ is_le (slice_cmp nat_cmp low (take (length low) other))
low_by_front [] other = none_is_least other
low_by_front (x ∷ low) [] = refl
low_by_front (x ∷ low) (y ∷ other) =
    elim (nat_cmp x y) as
    (λ r. is_le (ordering_then r (slice_cmp nat_cmp low other))
    ≡ is_le (ordering_then r (slice_cmp nat_cmp low (take (length low) other)))) [
      | Less ↦ refl
      | Equal ↦ low_by_front low other
      | Greater ↦ refl
    ]
