-- The windows near a reach, found by the bits of those that may be near.
use Rattle.std.proofs.Common.{◌≡◌, ◌≢◌, ◌⊎◌, inl, inr, ⊎_elim, ℕ, zero, suc, ◌+◌, ◌*◌, ◌/◌, ◌%◌}
use Rattle.std.proofs.Common.{◌^◌, ◌<◌, ◌≤◌, List, [], ◌∷◌, length, get_or, refl, sym, ap, ◌∙◌}
use Rattle.std.proofs.Common.{subst, arith}
use Rattle.std.specs.Prelude.{true, false, cond, bit_and, bit_or}
use Rattle.std.specs.Int.{w64, bit_at, bit_not, trailing_zeros}
use Rattle.std.proofs.lemmas.Bool.{cases_lt, cases_Bool, cases_order, cond-true, cond-false}
use Rattle.std.proofs.lemmas.Bool.{both_ways, or_cases, or_left, or_right}
use Rattle.std.proofs.lemmas.List.{get_or_default}
use Rattle.std.proofs.lemmas.Nat.{and_le_l}
use Rattle.std.proofs.lemmas.Nat.Bits.{bit_at_lowest, bit_at-suc, bit_at-lt, bit_at_above}
use Rattle.std.proofs.lemmas.Nat.Bits.{bit_at-trailing_zeros, bit_at_set_same, bit_at_set_other}
use Rattle.std.proofs.lemmas.Nat.Bits.{bit_at_clear_same, bit_at_clear_other, same_from_bits}
use Rattle.gm_trees.specs.declared.window.Node3.{Node3}
use Rattle.gm_trees.specs.declared.window.Window.{Window}
use Rattle.gm_trees.specs.Tree.{IsNotPast}
use Rattle.gm_split.specs.declared.windows.Lie.TheVariants.{Inside, Near}
use Rattle.gm_split.specs.Windows.{overlaps, is_within, meets, is_inside}
use Rattle.gm_split.specs.Near.{near_of, HasNear, lie_of}
use Rattle.gm_split.proofs.Parts.{Inside as IsIn, overlaps_parent, within_overlaps}

pub zero_or_more : (n : ℕ) → (n ≡ 0 → ⊥) → 0 < n
zero_or_more n some =
    ⊎_elim (λ more. more) (λ none. absurd (some (omega (arith, none)))) (cases_lt 0 n)

low_bit : (b m : ℕ) → b < 2 → bit_at (b + 2 * m) 0 ≡ b
low_bit b m h = bit_at_lowest (b + 2 * m) ∙ omega arith

high_bit : (b m i : ℕ) → b < 2 → bit_at (b + 2 * m) (suc i) ≡ bit_at m i
high_bit b m i h = let e : (b + 2 * m) / 2 ≡ m = omega arith in
    bit_at-suc (b + 2 * m) i ∙ ap (λ k. bit_at k i) e

-- ---- the bits of the windows near a reach
module _ (D : ℕ) (r : Node3 × Node3) where
  one_bit : (w : Window) → cond {A = ℕ} (overlaps D r w) 1 0 < 2
  one_bit w = ⊎_elim (λ t. let e = cond-true {A = ℕ} (overlaps D r w) 1 0 t in omega (arith, e))
      (λ f. let e = cond-false {A = ℕ} (overlaps D r w) 1 0 f in omega (arith, e))
      (cases_Bool (overlaps D r w))

  pub near_below : (ws : List Window) → near_of D ws r < 2 ^ length ws
  near_below [] = omega arith
  near_below (w ∷ ws) = let e : 2 ^ suc (length ws) ≡ 2 * 2 ^ length ws = grind arith in
      omega (arith, one_bit w, near_below ws, e)

  pub near_bit : (ws : List Window) (i : ℕ) (d : Window) → i < length ws
      → bit_at (near_of D ws r) i ≡ cond {A = ℕ} (overlaps D r (get_or ws i d)) 1 0
  near_bit [] i d inside = absurd (omega arith)
  near_bit (w ∷ ws) zero d inside =
      low_bit (cond {A = ℕ} (overlaps D r w) 1 0) (near_of D ws r) (one_bit w)
  near_bit (w ∷ ws) (suc i) d inside =
      high_bit (cond {A = ℕ} (overlaps D r w) 1 0) (near_of D ws r) i (one_bit w)
      ∙ near_bit ws i d (omega arith)

  pub near_inside : (ws : List Window) (i : ℕ) → bit_at (near_of D ws r) i ≡ 1 → i < length ws
  near_inside ws i one =
      ⊎_elim (λ less. less)
      (λ past. absurd
      (let e = bit_at_above (near_of D ws r) (length ws) i (near_below ws) past in
      omega (arith, one, e))) (cases_lt i (length ws))

  pub near_overlaps : (ws : List Window) (i : ℕ) (d : Window) → bit_at (near_of D ws r) i ≡ 1
      → overlaps D r (get_or ws i d) ≡ true
  near_overlaps ws i d one =
      ⊎_elim (λ t. t)
      (λ f. absurd (let e = near_bit ws i d (near_inside ws i one) in let z =
      cond-false {A = ℕ} (overlaps D r (get_or ws i d)) 1 0 f in omega (arith, one, e, z)))
      (cases_Bool (overlaps D r (get_or ws i d)))

  pub overlaps_near : (ws : List Window) (i : ℕ) (d : Window) → i < length ws
      → overlaps D r (get_or ws i d) ≡ true → bit_at (near_of D ws r) i ≡ 1
  overlaps_near ws i d inside t =
      near_bit ws i d inside ∙ cond-true {A = ℕ} (overlaps D r (get_or ws i d)) 1 0 t

  pub none_near : (ws : List Window) → near_of D ws r ≡ 0 → meets D ws r ≡ false
  none_near [] none = refl
  none_near (w ∷ ws) none =
      ⊎_elim (λ t. absurd
      (let e = cond-true {A = ℕ} (overlaps D r w) 1 0 t in omega (arith, none, e)))
      (λ f. ⊎_elim (λ m. absurd
      (⊎_elim (λ here. both_ways _ f here)
      (λ there. both_ways _ (none_near ws (omega (arith, none))) there)
      (or_cases (overlaps D r w) (meets D ws r) m))) (λ m. m)
      (cases_Bool (meets D (w ∷ ws) r)))
      (cases_Bool (overlaps D r w))

  pub some_near : (ws : List Window) → 0 < near_of D ws r → meets D ws r ≡ true
  some_near [] some = absurd (omega arith)
  some_near (w ∷ ws) some =
      ⊎_elim (λ t. or_left (overlaps D r w) (meets D ws r) t)
      (λ f. let e = cond-false {A = ℕ} (overlaps D r w) 1 0 f in
      or_right (overlaps D r w) (meets D ws r) (some_near ws (omega (arith, some, e))))
      (cases_Bool (overlaps D r w))

  -- a window that the reach is inside of
  pub within_at : (ws : List Window) (d : Window) → is_inside D ws r ≡ true
      → (i : ℕ) × (i < length ws) × (is_within D r (get_or ws i d) ≡ true)
  within_at [] d h = absurd cc
  within_at (w ∷ ws) d h =
      ⊎_elim (λ here. (0, (omega arith), here))
      (λ there. let i = within_at ws d there in (suc i.0, (let l = i.1 in omega arith), i.2))
      (or_cases (is_within D r w) (is_inside D ws r) h)

  pub inside_at : (ws : List Window) (i : ℕ) (d : Window) → i < length ws
      → is_within D r (get_or ws i d) ≡ true → is_inside D ws r ≡ true
  inside_at [] i d inside h = absurd (omega arith)
  inside_at (w ∷ ws) zero d inside h = or_left (is_within D r w) (is_inside D ws r) h
  inside_at (w ∷ ws) (suc i) d inside h =
      or_right (is_within D r w) (is_inside D ws r) (inside_at ws i d (omega arith) h)

-- what is near a child is near its parent
pub near_parent : (D : ℕ) (child parent : Node3 × Node3) (ws : List Window) → IsIn D child parent
    → HasNear D ws child (near_of D ws parent)
near_parent D child parent [] inside i one = one
near_parent D child parent (w ∷ ws) inside i one =
    let within = near_inside D child (w ∷ ws) i one in
    overlaps_near D parent (w ∷ ws) i w within
    (overlaps_parent D child parent (get_or (w ∷ ws) i w) inside
    (near_overlaps D child (w ∷ ws) i w one))

-- ---- the windows looked at so far
abbrev pub clear : ℕ → ℕ → ℕ
clear left at = bit_and left (bit_not w64 (1 * 2 ^ at % 2 ^ 64))

pub record Looked (D : ℕ) (ws : List Window) (r : Node3 × Node3) (left near : ℕ) : Type 0 where
  pub more : (i : ℕ) → bit_at (near_of D ws r) i ≡ 1 → (bit_at left i ≡ 1) ⊎ (bit_at near i ≡ 1)
  pub only : (i : ℕ) → bit_at near i ≡ 1 → bit_at (near_of D ws r) i ≡ 1
  pub outside : (i : ℕ) (d : Window) → bit_at near i ≡ 1 → is_within D r (get_or ws i d) ≡ false

module _ (D : ℕ) (ws : List Window) (r : Node3 × Node3) where
  pub looked_end : (left near : ℕ) → IsNotPast D r.0 r.1 → Looked D ws r left near
      → ((i : ℕ) → i < length ws → bit_at left i ≡ 1 → ⊥) → Near near ≡ lie_of D ws r
  looked_end left near rising looked none =
      let all : (i : ℕ) → bit_at (near_of D ws r) i ≡ 1 → bit_at near i ≡ 1 =
      λ i one. ⊎_elim (λ more. absurd (none i (near_inside D r ws i one) more)) (λ found. found)
      (looked.more i one) in
      let same : near ≡ near_of D ws r = same_from_bits near (near_of D ws r) (λ i.
      ⊎_elim (λ less. ⊎_elim (λ low. omega (arith, less, low))
      (λ high. absurd
      (let one = all i (let b = bit_at-lt (near_of D ws r) i in omega (arith, high, b)) in
      omega (arith, less, one))) (cases_lt (bit_at (near_of D ws r) i) 1))
      (λ high. let one : bit_at near i ≡ 1 = (let b = bit_at-lt near i in omega (arith, high, b)) in
      one ∙ sym (looked.only i one)) (cases_lt (bit_at near i) 1)) in
      let d : Window = record { low = r.0; high = r.1 } in
      let out : is_inside D ws r ≡ false =
      ⊎_elim (λ t. let at = within_at D r ws d t in
      let one = all at.0
      (overlaps_near D r ws at.0 d at.1 (within_overlaps D r (get_or ws at.0 d) rising at.2)) in
      absurd (both_ways _ (looked.outside at.0 d one) at.2))
      (λ f. f) (cases_Bool (is_inside D ws r)) in
      ap (λ n. Near n) same ∙ sym (cond-false (is_inside D ws r) Inside (Near (near_of D ws r)) out)

  pub lie_inside : (i : ℕ) (d : Window) → i < length ws → is_within D r (get_or ws i d) ≡ true
      → Inside ≡ lie_of D ws r
  lie_inside i d inside h =
      sym (cond-true (is_inside D ws r) Inside (Near (near_of D ws r))
      (inside_at D r ws i d inside h))

  module _ (left near at : ℕ) (some : 0 < left) (fits : left < 2 ^ 64)
      (found : at ≡ trailing_zeros w64 left) (few : length ws ≤ 64)
      (looked : Looked D ws r left near) where
    lowest : (at < 64) × (bit_at left at ≡ 1) × ((i : ℕ) → i < at → bit_at left i ≡ 0)
    lowest = let h = bit_at-trailing_zeros w64 left some fits in (
      (omega (arith, found, h.0)),
      (ap (bit_at left) found ∙ h.1),
      λ i less. h.2 i (omega (arith, less, found)),
    )

    pub looked_past : length ws ≤ at → IsNotPast D r.0 r.1 → Near near ≡ lie_of D ws r
    looked_past past rising =
        looked_end left near rising looked
        (λ i inside one. let z = lowest.2 i (omega (arith, inside, past)) in
        omega (arith, one, z))

    pub left_less : clear left at < left
    left_less =
        ⊎_elim (λ less. less)
        (λ most. let same : clear left at ≡ left =
        (let h = and_le_l left (bit_not w64 (1 * 2 ^ at % 2 ^ 64)) in omega (arith, most, h)) in
        absurd (let z = bit_at_clear_same w64 left at lowest.0 in let o =
        ap (λ n. bit_at n at) same in let one = lowest.1 in omega (arith, z, o, one)))
        (cases_lt (clear left at) left)

    still : (i : ℕ) → i ≢ at → i < 64 → bit_at left i ≡ 1 → bit_at (clear left at) i ≡ 1
    still i other low one = bit_at_clear_other w64 left at lowest.0 i low other ∙ one

    pub looked_apart : (d : Window) → at < length ws → overlaps D r (get_or ws at d) ≡ false
        → Looked D ws r (clear left at) near
    looked_apart d inside apart = record {
      more = λ i one. ⊎_elim
          (λ more. inl (still i
          (λ e. both_ways _ apart
          (near_overlaps D r ws at d (subst (λ k. bit_at (near_of D ws r) k ≡ 1) e one)))
          (let h = near_inside D r ws i one in omega (arith, h)) more)) (λ old. inr old)
          (looked.more i one);
      only = looked.only;
      outside = looked.outside;
    }

    bit_kept : (i : ℕ) → bit_at near i ≡ 1 → bit_at (bit_or near (1 * 2 ^ at % 2 ^ 64)) i ≡ 1
    bit_kept i one =
        ⊎_elim (λ e. ap (bit_at (bit_or near (1 * 2 ^ at % 2 ^ 64))) e
        ∙ bit_at_set_same w64 near at lowest.0)
        (λ apart. bit_at_set_other w64 near at lowest.0 i
        (λ e. ⊎_elim (λ less. omega (arith, less, e)) (λ more. omega (arith, more, e))
        apart) ∙ one) (cases_order i at)

    bit_from : (i : ℕ) → bit_at (bit_or near (1 * 2 ^ at % 2 ^ 64)) i ≡ 1
        → (i ≡ at) ⊎ (bit_at near i ≡ 1)
    bit_from i one =
        ⊎_elim (λ e. inl e)
        (λ apart. inr (sym
        (bit_at_set_other w64 near at lowest.0 i
        (λ e. ⊎_elim (λ less. omega (arith, less, e)) (λ more. omega (arith, more, e))
        apart)) ∙ one)) (cases_order i at)

    pub looked_near : (d : Window) → at < length ws → overlaps D r (get_or ws at d) ≡ true
        → is_within D r (get_or ws at d) ≡ false
        → Looked D ws r (clear left at) (bit_or near (1 * 2 ^ at % 2 ^ 64))
    looked_near d inside over out = record {
      more = λ i one. ⊎_elim
          (λ e. inr (ap (bit_at (bit_or near (1 * 2 ^ at % 2 ^ 64))) e
          ∙ bit_at_set_same w64 near at lowest.0))
          (λ apart. ⊎_elim
          (λ more. inl (still i
          (λ e. ⊎_elim (λ less. omega (arith, less, e)) (λ past. omega (arith, past, e))
          apart) (let h = near_inside D r ws i one in omega (arith, h)) more))
          (λ old. inr (bit_kept i old)) (looked.more i one)) (cases_order i at);
      only = λ i one. ⊎_elim
          (λ e. subst (λ k. bit_at (near_of D ws r) k ≡ 1) (sym e)
          (overlaps_near D r ws at d inside over)) (λ old. looked.only i old) (bit_from i one);
      outside = λ i e one. ⊎_elim
          (λ here. subst (λ k. is_within D r (get_or ws k e) ≡ false) (sym here)
          (let same : get_or ws at e ≡ get_or ws at d = get_or_default ws at e d inside in
          ap (is_within D r) same ∙ out)) (λ old. looked.outside i e old) (bit_from i one);
    }
