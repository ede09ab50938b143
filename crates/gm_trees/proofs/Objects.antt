-- The node of an object, and its reach.
use Rattle.std.proofs.Common.{◌≡◌, ◌⊎◌, inl, inr, ⊎_elim, ℕ, zero, suc, ◌+◌, ◌-◌, ◌*◌, ◌/◌, ◌^◌}
use Rattle.std.proofs.Common.{◌<◌, ◌≤◌, List, [], ◌∷◌, length, refl, sym, ap, ◌∙◌, subst, arith}
use Rattle.std.specs.Prelude.{Bool, true, Some, slice_index, nat_le}
use Rattle.std.proofs.Math.Nat.{mod-lt, div-mul-le_self, mul-le-mul_right}
use Rattle.std.proofs.lemmas.Bool.{cases_Bool, cond-true, cond-false, and_parts, leb-true}
use Rattle.std.proofs.lemmas.Nat.{div-add-mod'}
use Rattle.gm_curve.specs.Xz.{is_covered, greatest, level_of, sequence_of}
use Rattle.gm_trees.specs.Tree.{walk}
use Rattle.gm_trees.specs.Paths.{AreCoordinates}
use Rattle.gm_trees.specs.Z.{z_root}
use Rattle.gm_trees.specs.ZLaws.{some_width}
use Rattle.gm_trees.specs.Xz.{xz_shape, xz_end, IsObjectPath}
use Rattle.gm_trees.proofs.Cells.{cell_by_path, sequence_members, sequence_length, index_of_cell}
use Rattle.gm_trees.proofs.Cells.{coordinate_below, shr_none}
use Rattle.gm_trees.proofs.Numbering.{xz_halves, first_from_root, place_is_in}

greatest_most : (n : ℕ) (test : ℕ → Bool) → greatest n test ≤ n
greatest_most zero test = omega arith
greatest_most (suc n) test =
    ⊎_elim (λ t. let e : greatest (suc n) test ≡ suc n = cond-true (test (suc n)) _ _ t in
    omega (arith, e))
    (λ f. let e : greatest (suc n) test ≡ greatest n test = cond-false (test (suc n)) _ _ f in
    omega (arith, e, greatest_most n test)) (cases_Bool (test (suc n)))

greatest_passes : (n : ℕ) (test : ℕ → Bool)
    → (greatest n test ≡ 0) ⊎ (test (greatest n test) ≡ true)
greatest_passes zero test = inl refl
greatest_passes (suc n) test =
    ⊎_elim (λ t. let e : greatest (suc n) test ≡ suc n = cond-true (test (suc n)) _ _ t in
    inr (subst (λ k. test k ≡ true) (sym e) t))
    (λ f. let e : greatest (suc n) test ≡ greatest n test = cond-false (test (suc n)) _ _ f in
    ⊎_elim (λ none. inl (e ∙ none)) (λ passes. inr (subst (λ k. test k ≡ true) (sym e) passes))
    (greatest_passes n test)) (cases_Bool (test (suc n)))

covered_at : (side : ℕ) (low high : List ℕ) (d : ℕ) → d < length low → length low ≡ length high
    → is_covered side low high ≡ true → slice_index high d / side ≤ slice_index low d / side + 1
covered_at side [] high d inside same h = absurd (omega arith)
covered_at side (l ∷ low) [] d inside same h = absurd (omega arith)
covered_at side (l ∷ low) (k ∷ high) zero inside same h =
    leb-true (k / side) (l / side + 1)
    (and_parts (nat_le (k / side) (l / side + 1)) (is_covered side low high) h).0
covered_at side (l ∷ low) (k ∷ high) (suc d) inside same h =
    covered_at side low high d (omega arith) (omega arith)
    (and_parts (nat_le (k / side) (l / side + 1)) (is_covered side low high) h).1

-- what lies in a cell or in the next one lies in the enlarged cell
in_enlarged : (h l side : ℕ) → 1 ≤ side → h / side ≤ l / side + 1 → h < (l / side + 2) * side
in_enlarged h l side some near =
    let parts = div-add-mod' h side in
    let less = mod-lt h {m = side} (omega (arith, some)) in
    let most : h / side * side ≤ (l / side + 1) * side = mul-le-mul_right side near in
    let x : (l / side + 2) * side ≡ (l / side + 1) * side + side = grind arith in
    omega (arith, parts, less, most, x)

module _ (D G : ℕ) (low high : List ℕ) (are_low : AreCoordinates D G low)
    (are_high : AreCoordinates D G high) where
  level : ℕ
  level = level_of G low high

  deep : level_of G low high ≤ G
  deep = greatest_most G (λ l. is_covered (2 ^ (G - l)) low high)

  touching : (d : ℕ) → d < D
      → slice_index high d / 2 ^ (G - level_of G low high)
      ≤ slice_index low d / 2 ^ (G - level_of G low high) + 1
  touching d inside =
      ⊎_elim
      (λ none.
      let e : G - level_of G low high ≡ G = omega (arith, none) in
      let z : slice_index high d / 2 ^ G ≡ 0 =
      shr_none (slice_index high d) G (coordinate_below D G high d are_high) in
      let f : slice_index high d / 2 ^ (G - level_of G low high) ≡ slice_index high d / 2 ^ G =
      ap (λ k. slice_index high d / 2 ^ k) e in
      omega (arith, z, f))
      (λ passes. covered_at (2 ^ (G - level_of G low high)) low high d
      (omega (arith, inside, are_low.length)) (are_low.length ∙ sym are_high.length) passes)
      (greatest_passes G (λ l. is_covered (2 ^ (G - l)) low high))

  at_low : (i side d : ℕ) → side ≡ 2 ^ (G - level_of G low high)
      → i ≡ slice_index low d / 2 ^ (G - level_of G low high) → i * side ≤ slice_index low d
  at_low i side d s e =
      let f : i * side ≡ slice_index low d / side * side =
      ap (λ k. k * side) (e ∙ ap (λ k. slice_index low d / k) (sym s)) in
      omega (arith, f, div-mul-le_self (slice_index low d) side)

  at_high : (i side d : ℕ) → d < D → side ≡ 2 ^ (G - level_of G low high)
      → i ≡ slice_index low d / 2 ^ (G - level_of G low high)
      → slice_index high d ≤ xz_end (2 ^ G) side i
  at_high i side d inside s e =
      let at : i ≡ slice_index low d / side = e ∙ ap (λ k. slice_index low d / k) (sym s) in
      let near : slice_index high d / side ≤ slice_index low d / side + 1 =
      subst (λ k. slice_index high d / k ≤ slice_index low d / k + 1) (sym s)
      (touching d inside) in
      let some : 1 ≤ side = omega (arith, s, some_width (G - level_of G low high)) in
      let less = in_enlarged (slice_index high d) (slice_index low d) side some near in
      let f : (i + 2) * side ≡ (slice_index low d / side + 2) * side =
      ap (λ k. (k + 2) * side) at in
      omega (arith, less, f, coordinate_below D G high d are_high)

  pub object_node : (D ≡ 2) ⊎ (D ≡ 3)
      → IsObjectPath D G low high (sequence_of G (level_of G low high) low)
  object_node dimensions =
      let path = sequence_of G (level_of G low high) low in
      let members = sequence_members D G (level_of G low high) low are_low.length in
      let long = sequence_length G (level_of G low high) low deep in
      let short : length path ≤ G = omega (arith, long, deep) in
      let cell = cell_by_path (xz_shape D G) (xz_halves D G) D z_root path dimensions members refl
      refl refl refl in
      let side : 2 ^ (G - (walk (xz_shape D G) z_root path).level) ≡ 2 ^ (G - level_of G low high) =
      ap (λ l. 2 ^ (G - l)) (cell.level ∙ long) in
      let x = cell.x ∙ index_of_cell D G 0 (level_of G low high) low are_low deep in
      let y = cell.y ∙ index_of_cell D G 1 (level_of G low high) low are_low deep in
      let t = cell.t ∙ index_of_cell D G 2 (level_of G low high) low are_low deep in
      let first : 0 < D = ⊎_elim (λ e. omega (arith, e)) (λ e. omega (arith, e)) dimensions in
      let second : 1 < D = ⊎_elim (λ e. omega (arith, e)) (λ e. omega (arith, e)) dimensions in
      record {
        deep = short;
        members = members;
        code = ap (λ c. Some c)
            (first_from_root D G path short ∙ sym (place_is_in D G path short members));
        holds_low = (at_low _ _ 0 side x, at_low _ _ 1 side y, λ three. at_low _ _ 2 side t);
        holds_high = (
          at_high _ _ 0 first side x,
          at_high _ _ 1 second side y,
          λ three. at_high _ _ 2 (omega (arith, three)) side t,
        );
      }
