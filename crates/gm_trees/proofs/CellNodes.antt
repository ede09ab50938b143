-- The node of a cell of the Z tree's deepest level.
use Rattle.std.proofs.Common.{◌≡◌, ◌⊎◌, ℕ, ◌+◌, ◌-◌, ◌*◌, ◌/◌, ◌^◌, ◌≤◌, List, length, refl, ap}
use Rattle.std.proofs.Common.{◌∙◌, arith}
use Rattle.std.specs.Prelude.{slice_index}
use Rattle.gm_curve.specs.Xz.{sequence_of}
use Rattle.gm_trees.specs.declared.node.Node.{Node}
use Rattle.gm_trees.specs.declared.window.Node3.{Node3}
use Rattle.gm_trees.specs.Tree.{walk}
use Rattle.gm_trees.specs.Paths.{AreCoordinates, cell_of, spelled}
use Rattle.gm_trees.specs.Z.{z_root, z_shape, z_low, z_high, IsCellPath}
use Rattle.gm_trees.proofs.Cells.{cell_by_path, sequence_members, sequence_length, index_of_cell}
use Rattle.gm_trees.proofs.Spelling.{z_halves, first_from_root, cell_spelled}

-- a cell of side 1
low_corner : (n : Node) (at : List ℕ) (side : ℕ) → side ≡ 1 → n.x ≡ slice_index at 0
    → n.y ≡ slice_index at 1 → n.t ≡ slice_index at 2 → z_low side n ≡ cell_of at
low_corner n at side one x y t =
    let node : ℕ → ℕ → ℕ → Node3 = λ a b c. record { x = a; y = b; t = c } in
    let low : (i k : ℕ) → i ≡ k → i * side ≡ k = λ i k e. ap (λ m. i * m) one ∙ omega (arith, e) in
    ap (λ a. node a (n.y * side) (n.t * side)) (low n.x _ x)
    ∙ ap (λ b. node (slice_index at 0) b (n.t * side)) (low n.y _ y)
    ∙ ap (λ c. node (slice_index at 0) (slice_index at 1) c) (low n.t _ t)

high_corner : (n : Node) (at : List ℕ) (side : ℕ) → side ≡ 1 → n.x ≡ slice_index at 0
    → n.y ≡ slice_index at 1 → n.t ≡ slice_index at 2 → z_high side n ≡ cell_of at
high_corner n at side one x y t =
    let node : ℕ → ℕ → ℕ → Node3 = λ a b c. record { x = a; y = b; t = c } in
    let high : (i k : ℕ) → i ≡ k → i * side + (side - 1) ≡ k =
    λ i k e. ap (λ m. i * m + (m - 1)) one ∙ omega (arith, e) in
    ap (λ a. node a (n.y * side + (side - 1)) (n.t * side + (side - 1))) (high n.x _ x)
    ∙ ap (λ b. node (slice_index at 0) b (n.t * side + (side - 1))) (high n.y _ y)
    ∙ ap (λ c. node (slice_index at 0) (slice_index at 1) c) (high n.t _ t)

pub cell_node : (D B : ℕ) (at : List ℕ) → (D ≡ 2) ⊎ (D ≡ 3) → AreCoordinates D B at
    → IsCellPath D B at (sequence_of B B at)
cell_node D B at dimensions are =
    let path = sequence_of B B at in
    let members = sequence_members D B B at are.length in
    let most : B ≤ B = omega arith in
    let long = sequence_length B B at most in
    let cell = cell_by_path (z_shape D B) (z_halves D B) D z_root path dimensions members refl
    refl refl refl in
    let none : B - B ≡ 0 = omega arith in
    let index : (d : ℕ) → slice_index at d / 2 ^ (B - B) ≡ slice_index at d =
    λ d. ap (λ k. slice_index at d / 2 ^ k) none ∙ omega arith in
    let side : 2 ^ (B - (walk (z_shape D B) z_root path).level) ≡ 1 =
    ap (λ l. 2 ^ (B - l)) (cell.level ∙ long) ∙ ap (λ k. 2 ^ k) none in
    let width : 2 ^ (D * (B - length path)) ≡ 1 =
    ap (λ l. 2 ^ (D * (B - l))) long ∙ ap (λ k. 2 ^ (D * k)) none
    ∙ (let z : D * 0 ≡ 0 = omega arith in ap (λ k. 2 ^ k) z) in
    let x = cell.x ∙ index_of_cell D B 0 B at are most ∙ index 0 in
    let y = cell.y ∙ index_of_cell D B 1 B at are most ∙ index 1 in
    let t = cell.t ∙ index_of_cell D B 2 B at are most ∙ index 2 in
    record {
      deep = long;
      members = members;
      code = first_from_root D B path (omega (arith, long)) ∙ ap (λ m. spelled D 0 path * m) width
          ∙ omega (arith, cell_spelled D 0 B at);
      low = low_corner (walk (z_shape D B) z_root path) at _ side x y t;
      high = high_corner (walk (z_shape D B) z_root path) at _ side x y t;
    }
