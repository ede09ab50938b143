-- The level sets of a tree, its partial nodes, and the level at which a decomposition stops.
use Rattle.std.specs.Prelude.{◌≡◌, ◌<◌, ◌≤◌, ◌⊎◌, ℕ, zero, suc, ◌+◌, ◌*◌, ◌^◌, true, cond, Some}
use Rattle.std.specs.Prelude.{List, length, take}
use Rattle.gm_trees.specs.declared.node.Node.{Node}
use Rattle.gm_trees.specs.declared.window.Window.{Window}
use Rattle.gm_trees.specs.Tree.{Shape, HasCode, walk, AreChildNumbers}
use Rattle.gm_runs.specs.Runs.{AreMaximalRuns}
use Rattle.gm_split.specs.Windows.{meets, is_partial}

-- the path leads from n to the stem of a code l levels further down: to the node whose own code it
-- is, where that is nearer, and otherwise to the node there that has the code
pub record IsStem (D : ℕ) (s : Shape) (n : Node) (l c : ℕ) (path : List ℕ) : Type 0 where
  pub members : AreChildNumbers D path
  pub stands : ((length path ≡ l) × HasCode s (walk s n path) c)
      ⊎ ((length path < l) × (s.own (walk s n path) ≡ Some c))

-- the node of a code: the node whose own code it is, and where none has it as its own, the node of
-- the deepest level that has it
abbrev pub IsNodeOfCode : ℕ → Shape → ℕ → List ℕ → Type 0
IsNodeOfCode D s c path = IsStem D s s.root s.depth c path

-- the only stem of a code at a level: the path of its node, as far as the level
pub record IsOneStem (D : ℕ) (s : Shape) (l c : ℕ) (path : List ℕ) : Type 0 where
  pub stem : IsStem D s s.root l c path
  pub only : (other : List ℕ) → IsStem D s s.root l c other → other ≡ path
  pub cut : (node : List ℕ) → IsNodeOfCode D s c node → path ≡ take l node

-- a code is in the level set of a level where the reach of its stem overlaps a window
abbrev pub InLevelSet : ℕ → Shape → List Window → ℕ → ℕ → Type 0
InLevelSet D s ws l c =
    (path : List ℕ) × IsStem D s s.root l c path
    × (meets D ws (s.reach (walk s s.root path)) ≡ true)

-- the sum of f over the numbers below n
abbrev pub sum_below : ℕ → (ℕ → ℕ) → ℕ
sum_below zero f = 0
sum_below (suc n) f = sum_below n f + f n

-- how many partial nodes there are this many levels below a node
abbrev pub partial_count : ℕ → Shape → List Window → ℕ → Node → ℕ
partial_count D s ws zero n = cond (is_partial D ws (s.reach n)) 1 0
partial_count D s ws (suc k) n = sum_below (2 ^ D) (λ q. partial_count D s ws k (s.child n q))

-- a level with few runs and few partial nodes
pub record Qualifies (D : ℕ) (s : Shape) (ws : List Window) (target l : ℕ) : Type 0 where
  pub runs : (rs : List (ℕ × ℕ)) → AreMaximalRuns rs (InLevelSet D s ws l) → length rs ≤ target
  pub partial : partial_count D s ws l s.root ≤ 4 * target

-- the greatest level up to the depth such that every level up to it qualifies
pub record IsStop (D : ℕ) (s : Shape) (ws : List Window) (target l : ℕ) : Type 0 where
  pub within : l ≤ s.depth
  pub all : (k : ℕ) → k ≤ l → Qualifies D s ws target k
  pub next : l < s.depth → Qualifies D s ws target (l + 1) → ⊥
