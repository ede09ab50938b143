-- What a path of child numbers says of the node at its end.
use Rattle.std.specs.Prelude.{◌≡◌, ◌<◌, ℕ, ◌+◌, ◌*◌, ◌^◌, List, [], ◌∷◌, length, slice_index}
use Rattle.std.specs.Prelude.{All}
use Rattle.std.specs.Int.{bit_at}
use Rattle.gm_trees.specs.declared.node.Node.{Node}
use Rattle.gm_trees.specs.declared.window.Node3.{Node3}

-- the number whose highest bits are those of a, and whose bits below are the bits d of the members,
-- the first highest
abbrev pub index_by_bits : ℕ → ℕ → List ℕ → ℕ
index_by_bits d a [] = a
index_by_bits d a (q ∷ qs) = index_by_bits d (2 * a + bit_at q d) qs

-- the number that the members spell behind a, D bits each, the first highest
abbrev pub spelled : ℕ → ℕ → List ℕ → ℕ
spelled D a [] = a
spelled D a (q ∷ qs) = spelled D (a * 2 ^ D + q) qs

-- the level is the path's length, and the index in dimension d has the bits d of the path's members
pub record HasCellOf (path : List ℕ) (n : Node) : Type 0 where
  pub level : n.level ≡ length path
  pub x : n.x ≡ index_by_bits 0 0 path
  pub y : n.y ≡ index_by_bits 1 0 path
  pub t : n.t ≡ index_by_bits 2 0 path

-- the cell of these coordinates
abbrev pub cell_of : List ℕ → Node3
cell_of at = record { x = slice_index at 0; y = slice_index at 1; t = slice_index at 2 }

-- D coordinates of B bits each
pub record AreCoordinates (D B : ℕ) (at : List ℕ) : Type 0 where
  pub length : length at ≡ D
  pub below : All (λ x. x < 2 ^ B) at
