-- The cells of nodes by their paths, and the paths of cells.
use Rattle.std.proofs.Common.{◌≡◌, ◌⊎◌, ⊎_elim, ℕ, zero, suc, ◌+◌, ◌-◌, ◌*◌, ◌/◌, ◌%◌, ◌^◌, ◌<◌}
use Rattle.std.proofs.Common.{◌≤◌, List, [], ◌∷◌, length, refl, sym, ap, ◌∙◌, subst, arith}
use Rattle.std.specs.Prelude.{slice_index}
use Rattle.std.specs.Int.{bit_at}
use Rattle.std.proofs.lemmas.Bool.{cases_lt}
use Rattle.std.proofs.lemmas.List.{get_or_past}
use Rattle.std.proofs.lemmas.List.Elements.{All-get_or}
use Rattle.std.proofs.lemmas.Nat.{pow_pos, shr-shr, div_below}
use Rattle.std.proofs.lemmas.Nat.Bits.{bit_at_lowest, bit_at-suc, bit_at-lt, bit_at-zero}
use Rattle.gm_curve.specs.Curve.{bits_at}
use Rattle.gm_curve.specs.Xz.{sequence_of}
use Rattle.gm_trees.specs.declared.node.Node.{Node}
use Rattle.gm_trees.specs.Tree.{Shape, walk, AreChildNumbers}
use Rattle.gm_trees.specs.Paths.{index_by_bits, HasCellOf, AreCoordinates}

-- ---- the bits of a child's number
bit_1 : (q : ℕ) → q / 2 % 2 ≡ bit_at q 1
bit_1 q = sym (bit_at_lowest (q / 2)) ∙ sym (bit_at-suc q 0)

bit_2 : (q : ℕ) → q < 8 → q / 4 ≡ bit_at q 2
bit_2 q few = let e : q / 4 ≡ q / 2 / 2 % 2 = omega arith in
    e ∙ sym (bit_at_lowest (q / 2 / 2)) ∙ sym (bit_at-suc (q / 2) 0) ∙ sym (bit_at-suc q 1)

few_children : (D q : ℕ) → (D ≡ 2) ⊎ (D ≡ 3) → q < 2 ^ D → q < 8
few_children D q d h =
    ⊎_elim (λ e. let k : q < 2 ^ 2 = subst (λ m. q < 2 ^ m) e h in omega arith)
    (λ e. let k : q < 2 ^ 3 = subst (λ m. q < 2 ^ m) e h in omega arith) d

-- the index of each dimension goes on with a bit of the child's number
pub record Halves (n : Node) (q : ℕ) (m : Node) : Type 0 where
  pub level : m.level ≡ n.level + 1
  pub x : m.x ≡ 2 * n.x + q % 2
  pub y : m.y ≡ 2 * n.y + q / 2 % 2
  pub t : m.t ≡ 2 * n.t + q / 4

module _ (s : Shape) (halves : (n : Node) (q : ℕ) → Halves n q (s.child n q)) where
  pub level_of_path : (n : Node) (path : List ℕ) → (walk s n path).level ≡ n.level + length path
  level_of_path n [] = omega arith
  level_of_path n (q ∷ qs) = omega (arith, level_of_path (s.child n q) qs, (halves n q).level)

  x_by_bits : (n : Node) (path : List ℕ) → (walk s n path).x ≡ index_by_bits 0 n.x path
  x_by_bits n [] = refl
  x_by_bits n (q ∷ qs) =
      x_by_bits (s.child n q) qs
      ∙ ap (λ a. index_by_bits 0 a qs)
      ((halves n q).x ∙ ap (λ b. 2 * n.x + b) (sym (bit_at_lowest q)))

  y_by_bits : (n : Node) (path : List ℕ) → (walk s n path).y ≡ index_by_bits 1 n.y path
  y_by_bits n [] = refl
  y_by_bits n (q ∷ qs) =
      y_by_bits (s.child n q) qs
      ∙ ap (λ a. index_by_bits 1 a qs) ((halves n q).y ∙ ap (λ b. 2 * n.y + b) (bit_1 q))

  t_by_bits : (D : ℕ) (n : Node) (path : List ℕ) → (D ≡ 2) ⊎ (D ≡ 3) → AreChildNumbers D path
      → (walk s n path).t ≡ index_by_bits 2 n.t path
  t_by_bits D n [] d members = refl
  t_by_bits D n (q ∷ qs) d members =
      t_by_bits D (s.child n q) qs d members.1
      ∙ ap (λ a. index_by_bits 2 a qs)
      ((halves n q).t ∙ ap (λ b. 2 * n.t + b) (bit_2 q (few_children D q d members.0)))

  pub cell_by_path : (D : ℕ) (n : Node) (path : List ℕ) → (D ≡ 2) ⊎ (D ≡ 3) → AreChildNumbers D path
      → n.level ≡ 0 → n.x ≡ 0 → n.y ≡ 0 → n.t ≡ 0 → HasCellOf path (walk s n path)
  cell_by_path D n path d members level x y t = record {
    level = omega (arith, level_of_path n path, level);
    x = x_by_bits n path ∙ ap (λ a. index_by_bits 0 a path) x;
    y = y_by_bits n path ∙ ap (λ a. index_by_bits 1 a path) y;
    t = t_by_bits D n path d members ∙ ap (λ a. index_by_bits 2 a path) t;
  }

-- ---- the sequence of a cell
low_bit : (b m : ℕ) → b < 2 → bit_at (b + 2 * m) 0 ≡ b
low_bit b m h = bit_at_lowest (b + 2 * m) ∙ omega arith

high_bit : (b m d : ℕ) → b < 2 → bit_at (b + 2 * m) (suc d) ≡ bit_at m d
high_bit b m d h = let e : (b + 2 * m) / 2 ≡ m = omega arith in
    bit_at-suc (b + 2 * m) d ∙ ap (λ k. bit_at k d) e

-- bit d of the bits at a place is that of coordinate d
pub bits_bit : (at : List ℕ) (d j : ℕ) → bit_at (bits_at j at) d ≡ bit_at (slice_index at d) j
bits_bit [] d j = bit_at-zero d ∙ sym (bit_at-zero j)
bits_bit (x ∷ xs) zero j = low_bit (bit_at x j) (bits_at j xs) (bit_at-lt x j)
bits_bit (x ∷ xs) (suc d) j =
    high_bit (bit_at x j) (bits_at j xs) d (bit_at-lt x j) ∙ bits_bit xs d j

pub bits_below : (j : ℕ) (at : List ℕ) → bits_at j at < 2 ^ length at
bits_below j [] = omega arith
bits_below j (x ∷ xs) =
    let e : 2 ^ suc (length xs) ≡ 2 * 2 ^ length xs = grind arith in
    omega (arith, bit_at-lt x j, bits_below j xs, e)

pub sequence_members : (D g l : ℕ) (at : List ℕ) → length at ≡ D
    → AreChildNumbers D (sequence_of g l at)
sequence_members D zero l at size = tt
sequence_members D (suc g) zero at size = tt
sequence_members D (suc g) (suc l) at size =
    (subst (λ m. bits_at g at < 2 ^ m) size (bits_below g at), sequence_members D g l at size)

pub sequence_length : (g l : ℕ) (at : List ℕ) → l ≤ g → length (sequence_of g l at) ≡ l
sequence_length zero l at h = omega arith
sequence_length (suc g) zero at h = refl
sequence_length (suc g) (suc l) at h = omega (arith, sequence_length g l at (omega arith))

next_bit : (d g : ℕ) (at : List ℕ)
    → 2 * (slice_index at d / 2 ^ suc g) + bit_at (bits_at g at) d ≡ slice_index at d / 2 ^ g
next_bit d g at =
    let x = slice_index at d in
    let half : x / 2 ^ (g + 1) ≡ x / 2 ^ g / 2 = sym (shr-shr x g 1) in
    let e : suc g ≡ g + 1 = omega arith in
    let up : x / 2 ^ suc g ≡ x / 2 ^ (g + 1) = ap (λ k. x / 2 ^ k) e in
    let low : bit_at (bits_at g at) d ≡ x / 2 ^ g % 2 = bits_bit at d g in
    omega (arith, half, up, low)

-- the index of the node at the end of the sequence of a cell
pub index_of_sequence : (d g l : ℕ) (at : List ℕ) → l ≤ g
    → index_by_bits d (slice_index at d / 2 ^ g) (sequence_of g l at)
    ≡ slice_index at d / 2 ^ (g - l)
index_of_sequence d zero l at h = let e : 0 ≡ 0 - l = omega arith in
    ap (λ k. slice_index at d / 2 ^ k) e
index_of_sequence d (suc g) zero at h = let e : suc g ≡ suc g - 0 = omega arith in
    ap (λ k. slice_index at d / 2 ^ k) e
index_of_sequence d (suc g) (suc l) at h =
    let e : g - l ≡ suc g - suc l = omega arith in
    ap (λ a. index_by_bits d a (sequence_of g l at)) (next_bit d g at)
    ∙ index_of_sequence d g l at (omega arith) ∙ ap (λ k. slice_index at d / 2 ^ k) e

-- ---- coordinates
pub coordinate_below : (D B : ℕ) (at : List ℕ) (d : ℕ) → AreCoordinates D B at
    → slice_index at d < 2 ^ B
coordinate_below D B at d are =
    ⊎_elim (λ inside. All-get_or (λ x. x < 2 ^ B) at d 0 inside are.below)
    (λ past. let e : slice_index at d ≡ 0 = get_or_past at d 0 past in omega (arith, e, pow_pos B))
    (cases_lt d (length at))

pub shr_none : (x B : ℕ) → x < 2 ^ B → x / 2 ^ B ≡ 0
shr_none x B h = let less : x / 2 ^ B < 1 =
    div_below x (2 ^ B) 1 (omega (arith, h)) (omega (arith, h)) in omega (arith, less)

pub index_of_cell : (D B d l : ℕ) (at : List ℕ) → AreCoordinates D B at → l ≤ B
    → index_by_bits d 0 (sequence_of B l at) ≡ slice_index at d / 2 ^ (B - l)
index_of_cell D B d l at are deep =
    ap (λ a. index_by_bits d a (sequence_of B l at))
    (sym (shr_none (slice_index at d) B (coordinate_below D B at d are)))
    ∙ index_of_sequence d B l at deep
