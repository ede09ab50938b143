-- What a tree of cells is: what its calls answer, and their laws.
use Rattle.std.specs.Prelude.{◌≡◌, ◌<◌, ◌≤◌, ℕ, ◌+◌, ◌^◌, Option, Some, None, List, [], ◌∷◌, length}
use Rattle.std.specs.List.{AllByRecursion}
use Rattle.gm_trees.specs.declared.node.Node.{Node}
use Rattle.gm_trees.specs.declared.window.Node3.{Node3}

-- what the calls of a tree answer
pub record Shape : Type 0 where
  pub depth : ℕ
  pub root : Node
  pub child : Node → ℕ → Node
  pub last : Node → ℕ
  pub own : Node → Option ℕ
  pub reach : Node → Node3 × Node3

-- the codes of a node
abbrev pub HasCode : Shape → Node → ℕ → Type 0
HasCode s n c = (n.first ≤ c) × (c ≤ s.last n)

-- the node at the end of a path of child numbers
abbrev pub walk : Shape → Node → List ℕ → Node
walk s n [] = n
walk s n (q ∷ qs) = walk s (s.child n q) qs

-- the numbers of children
abbrev pub AreChildNumbers : ℕ → List ℕ → Type 0
AreChildNumbers D path = AllByRecursion (λ q. q < 2 ^ D) path

-- a path of child numbers that leads from the root to a node
pub record LeadsTo (D : ℕ) (s : Shape) (n : Node) (path : List ℕ) : Type 0 where
  pub level : length path ≡ n.level
  pub members : AreChildNumbers D path
  pub ends : walk s s.root path ≡ n

-- a node's own code, if it has one, is its first
abbrev pub IsOwnFirst : Option ℕ → ℕ → Type 0
IsOwnFirst None first = Unit {0}
IsOwnFirst (Some c) first = c ≡ first

-- how many codes are a node's own
abbrev pub own_size : Option ℕ → ℕ
own_size None = 0
own_size (Some c) = 1

-- the codes of an inner node: its own, followed by those of its children, in order, each once
pub record AreParts (D : ℕ) (s : Shape) (n : Node) : Type 0 where
  pub own_first : IsOwnFirst (s.own n) n.first
  pub first_child : (s.child n 0).first ≡ n.first + own_size (s.own n)
  pub next_child : (q : ℕ) → q + 1 < 2 ^ D → (s.child n (q + 1)).first ≡ s.last (s.child n q) + 1
  pub last_child : (q : ℕ) → q + 1 ≡ 2 ^ D → s.last (s.child n q) ≡ s.last n

-- in each of D dimensions the first cell is not past the second
abbrev pub IsNotPast : ℕ → Node3 → Node3 → Type 0
IsNotPast D a b = (a.x ≤ b.x) × (a.y ≤ b.y) × (D ≡ 3 → a.t ≤ b.t)

-- the laws, of the nodes that come from the root
pub record IsTree (D : ℕ) (s : Shape) (Comes : Node → Type 0) : Type 0 where
  pub root_comes : Comes s.root
  pub child_comes : (n : Node) (q : ℕ) → Comes n → n.level < s.depth → q < 2 ^ D
      → Comes (s.child n q)
  pub by_path : (n : Node) → Comes n → (path : List ℕ) × LeadsTo D s n path
  pub root_level : s.root.level ≡ 0
  pub child_level : (n : Node) (q : ℕ) → Comes n → n.level < s.depth → q < 2 ^ D
      → (s.child n q).level ≡ n.level + 1
  pub within_depth : (n : Node) → Comes n → n.level ≤ s.depth
  pub root_has : (n : Node) (c : ℕ) → Comes n → HasCode s n c → HasCode s s.root c
  pub some_code : (n : Node) → Comes n → n.first ≤ s.last n
  pub inner : (n : Node) → Comes n → n.level < s.depth → AreParts D s n
  pub leaf : (n : Node) → Comes n → n.level ≡ s.depth → n.first ≡ s.last n
  pub leaf_own : (n : Node) → Comes n → n.level ≡ s.depth → IsOwnFirst (s.own n) n.first
  pub rising : (n : Node) → Comes n → IsNotPast D (s.reach n).0 (s.reach n).1
  pub inside_low : (n : Node) (q : ℕ) → Comes n → n.level < s.depth → q < 2 ^ D
      → IsNotPast D (s.reach n).0 (s.reach (s.child n q)).0
  pub inside_high : (n : Node) (q : ℕ) → Comes n → n.level < s.depth → q < 2 ^ D
      → IsNotPast D (s.reach (s.child n q)).1 (s.reach n).1
