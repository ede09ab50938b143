-- The pieces of a level: codes that are settled, and partial nodes.
use Rattle.std.specs.Prelude.{◌≡◌, ◌≤◌, ◌⊎◌, ℕ, zero, suc, ◌+◌, ◌^◌, true, cond, Option, Some, None}
use Rattle.std.specs.Prelude.{List, [], ◌∷◌, ◌++◌, option_to_list}
use Rattle.gm_trees.specs.declared.node.Node.{Node}
use Rattle.gm_trees.specs.declared.window.Window.{Window}
use Rattle.gm_trees.specs.Tree.{Shape}
use Rattle.gm_split.specs.declared.pieces.Piece.{Piece}
use Rattle.gm_split.specs.declared.pieces.Piece.TheVariants.{Codes, Partial}
use Rattle.gm_split.specs.Near.{near_of}
use Rattle.gm_split.specs.Windows.{meets, is_inside, is_partial}

-- what stands of a node: nothing, all its codes, or itself
abbrev pub piece_of : ℕ → Shape → List Window → Node → Option Piece
piece_of D s ws n =
    cond (is_inside D ws (s.reach n)) (Some (Codes n.first (s.last n)))
    (cond (meets D ws (s.reach n)) (Some (Partial n (near_of D ws (s.reach n)))) None)

abbrev pub own_pieces : Option ℕ → List Piece
own_pieces None = []
own_pieces (Some c) = Codes c c ∷ []

-- what stands of the children below q
abbrev pub child_pieces : ℕ → Shape → List Window → Node → ℕ → List Piece
child_pieces D s ws n zero = []
child_pieces D s ws n (suc q) =
    child_pieces D s ws n q ++ option_to_list (piece_of D s ws (s.child n q))

abbrev pub opened : ℕ → Shape → List Window → Node → List Piece
opened D s ws n = own_pieces (s.own n) ++ child_pieces D s ws n (2 ^ D)

abbrev pub opened_piece : ℕ → Shape → List Window → Piece → List Piece
opened_piece D s ws (Codes low high) = Codes low high ∷ []
opened_piece D s ws (Partial n near) = opened D s ws n

-- the pieces of the next level
abbrev pub opened_all : ℕ → Shape → List Window → List Piece → List Piece
opened_all D s ws [] = []
opened_all D s ws (p ∷ ps) = opened_piece D s ws p ++ opened_all D s ws ps

-- how many partial nodes
abbrev pub weight : Piece → ℕ
weight (Codes low high) = 0
weight (Partial n near) = 1

abbrev pub partials : List Piece → ℕ
partials [] = 0
partials (p ∷ ps) = weight p + partials ps

-- the first and the last code of a piece
abbrev pub ends : Shape → Piece → ℕ × ℕ
ends s (Codes low high) = (low, high)
ends s (Partial n near) = (n.first, s.last n)

-- a code is in one of the pieces
abbrev pub Covers : Shape → List Piece → ℕ → Type 0
Covers s [] c = ⊥
Covers s (p ∷ ps) c = (((ends s p).0 ≤ c) × (c ≤ (ends s p).1)) ⊎ Covers s ps c

-- a piece at a level
abbrev pub IsPieceAt : ℕ → Shape → (Node → Type 0) → List Window → ℕ → Piece → Type 0
IsPieceAt D s Comes ws l (Codes low high) = low ≤ high
IsPieceAt D s Comes ws l (Partial n near) =
    Comes n × (n.level ≡ l) × (is_partial D ws (s.reach n) ≡ true)
    × (near ≡ near_of D ws (s.reach n))

-- a partial node comes from the root
abbrev pub IsComing : (Node → Type 0) → Piece → Type 0
IsComing Comes (Codes low high) = Unit {0}
IsComing Comes (Partial n near) = Comes n
