-- The tree of the XZ code.
use Rattle.std.specs.Prelude.{◌≡◌, ◌<◌, ◌≤◌, ◌⊎◌, ℕ, ◌+◌, ◌-◌, ◌*◌, ◌/◌, ◌%◌, ◌^◌, min, Some, List}
use Rattle.std.specs.Prelude.{length}
use Rattle.gm_trees.specs.declared.node.Node.{Node}
use Rattle.gm_trees.specs.declared.window.Node3.{Node3}
use Rattle.gm_curve.specs.Listing.{sequence_count}
use Rattle.gm_curve.specs.Xz.{xz_code}
use Rattle.gm_trees.specs.Paths.{cell_of}
use Rattle.gm_trees.specs.Tree.{Shape, LeadsTo, IsNotPast, walk, AreChildNumbers}
use Rattle.gm_trees.specs.Z.{z_root, z_low}

-- the sizes that are allowed
pub record IsXzSize (D G : ℕ) : Type 0 where
  pub dimensions : (D ≡ 2) ⊎ (D ≡ 3)
  pub least : 1 ≤ G
  pub most : G ≤ 16

-- the child of this number: its codes come behind its parent's own and those of the children before
-- it
abbrev pub xz_child : ℕ → ℕ → Node → ℕ → Node
xz_child D G n q = record {
  level = n.level + 1;
  first = n.first + 1 + q * sequence_count D (G - (n.level + 1));
  x = 2 * n.x + q % 2;
  y = 2 * n.y + q / 2 % 2;
  t = 2 * n.t + q / 4;
}

-- the last code: a node has as many codes as sequences begin with its path
abbrev pub xz_last : ℕ → ℕ → Node → ℕ
xz_last D G n = n.first + (sequence_count D (G - n.level) - 1)

-- where the cell of this index, enlarged to twice its side and cut at the end of the space, ends
abbrev pub xz_end : ℕ → ℕ → ℕ → ℕ
xz_end whole side c = min (whole - 1) ((c + 2) * side - 1)

abbrev pub xz_high : ℕ → ℕ → Node → Node3
xz_high whole side n =
    record { x = xz_end whole side n.x; y = xz_end whole side n.y; t = xz_end whole side n.t }

abbrev pub xz_shape : ℕ → ℕ → Shape
xz_shape D G = record {
  depth = G;
  root = z_root;
  child = xz_child D G;
  last = xz_last D G;
  own = λ n. Some n.first;
  reach = λ n. (z_low (2 ^ (G - n.level)) n, xz_high (2 ^ G) (2 ^ (G - n.level)) n);
}

-- the nodes that come from the root, by the path that leads there, and what holds of their numbers
pub record ComesXz (D G : ℕ) (n : Node) : Type 0 where
  pub size : IsXzSize D G
  pub by_path : (path : List ℕ) × LeadsTo D (xz_shape D G) n path
  pub level : n.level ≤ G
  pub first : n.first + sequence_count D (G - n.level) ≤ sequence_count D G
  pub x : n.x < 2 ^ n.level
  pub y : n.y < 2 ^ n.level
  pub t : n.t < 2 ^ n.level
  pub flat : D ≡ 2 → n.t ≡ 0

-- a path to the node of an object: its own code is the object's, and its reach holds the object's
-- cells
pub record IsObjectPath (D G : ℕ) (low high path : List ℕ) : Type 0 where
  pub deep : length path ≤ G
  pub members : AreChildNumbers D path
  pub code : (xz_shape D G).own (walk (xz_shape D G) z_root path) ≡ Some (xz_code D G low high)
  pub holds_low : IsNotPast D ((xz_shape D G).reach (walk (xz_shape D G) z_root path)).0
      (cell_of low)
  pub holds_high : IsNotPast D (cell_of high)
      ((xz_shape D G).reach (walk (xz_shape D G) z_root path)).1
