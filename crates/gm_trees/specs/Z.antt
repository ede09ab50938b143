-- The tree of the Z code.
use Rattle.std.specs.Prelude.{◌≡◌, ◌<◌, ◌≤◌, ◌⊎◌, ℕ, ◌+◌, ◌-◌, ◌*◌, ◌/◌, ◌%◌, ◌^◌, None, List}
use Rattle.std.specs.Prelude.{length}
use Rattle.gm_trees.specs.declared.node.Node.{Node}
use Rattle.gm_trees.specs.declared.window.Node3.{Node3}
use Rattle.gm_curve.specs.Curve.{z_code}
use Rattle.gm_trees.specs.Paths.{cell_of}
use Rattle.gm_trees.specs.Tree.{Shape, LeadsTo, walk, AreChildNumbers}

-- the sizes that are allowed
pub record IsZSize (D B : ℕ) : Type 0 where
  pub dimensions : (D ≡ 2) ⊎ (D ≡ 3)
  pub fits : D * B ≤ 63

-- the whole space
abbrev pub z_root : Node
z_root = record { level = 0; first = 0; x = 0; y = 0; t = 0 }

-- the child of this number: it has its part of the codes, and the index of each dimension goes on
-- with a bit of the number
abbrev pub z_child : ℕ → ℕ → Node → ℕ → Node
z_child D B n q = record {
  level = n.level + 1;
  first = n.first + q * 2 ^ (D * (B - (n.level + 1)));
  x = 2 * n.x + q % 2;
  y = 2 * n.y + q / 2 % 2;
  t = 2 * n.t + q / 4;
}

-- the last code: a node has as many codes as cells of the deepest level
abbrev pub z_last : ℕ → ℕ → Node → ℕ
z_last D B n = n.first + (2 ^ (D * (B - n.level)) - 1)

-- the least and the greatest corner of a cell of this side
abbrev pub z_low : ℕ → Node → Node3
z_low side n = record { x = n.x * side; y = n.y * side; t = n.t * side }

abbrev pub z_high : ℕ → Node → Node3
z_high side n =
    record { x = n.x * side + (side - 1); y = n.y * side + (side - 1); t = n.t * side + (side - 1) }

abbrev pub z_shape : ℕ → ℕ → Shape
z_shape D B = record {
  depth = B;
  root = z_root;
  child = z_child D B;
  last = z_last D B;
  own = λ _. None;
  reach = λ n. (z_low (2 ^ (B - n.level)) n, z_high (2 ^ (B - n.level)) n);
}

-- the nodes that come from the root, by the path that leads there, and what holds of their numbers
pub record ComesZ (D B : ℕ) (n : Node) : Type 0 where
  pub size : IsZSize D B
  pub by_path : (path : List ℕ) × LeadsTo D (z_shape D B) n path
  pub level : n.level ≤ B
  pub first : n.first + 2 ^ (D * (B - n.level)) ≤ 2 ^ (D * B)
  pub x : n.x < 2 ^ n.level
  pub y : n.y < 2 ^ n.level
  pub t : n.t < 2 ^ n.level
  pub flat : D ≡ 2 → n.t ≡ 0

-- a path to the node of a cell of the deepest level: it has the cell's code, and reaches just the
-- cell
pub record IsCellPath (D B : ℕ) (at path : List ℕ) : Type 0 where
  pub deep : length path ≡ B
  pub members : AreChildNumbers D path
  pub code : (walk (z_shape D B) z_root path).first ≡ z_code D B at
  pub low : ((z_shape D B).reach (walk (z_shape D B) z_root path)).0 ≡ cell_of at
  pub high : ((z_shape D B).reach (walk (z_shape D B) z_root path)).1 ≡ cell_of at
