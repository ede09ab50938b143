-- What has been taken of a level's pieces.
use Rattle.std.specs.Prelude.{◌≡◌, ◌≤◌, ◌<◌, ◌⊎◌, ◌↔◌, ℕ, suc, ◌+◌, ◌*◌, Bool, true, false, cond}
use Rattle.std.specs.Prelude.{eqb, Option, Some, None, List, [], ◌∷◌, ◌++◌, option_to_list, All}
use Rattle.gm_trees.specs.declared.node.Node.{Node}
use Rattle.gm_trees.specs.declared.window.Window.{Window}
use Rattle.gm_trees.specs.Tree.{Shape}
use Rattle.gm_split.specs.declared.pieces.Piece.{Piece}
use Rattle.gm_split.specs.declared.pieces.Piece.TheVariants.{Codes, Partial}
use Rattle.gm_split.specs.declared.front.Front.{Front}
use Rattle.gm_split.specs.declared.front.Tail.{Tail}
use Rattle.gm_split.specs.declared.front.Tail.TheVariants.{Start, Growing, Closed}
use Rattle.gm_split.specs.Levels.{InLevelSet, IsStop}
use Rattle.gm_split.specs.Opening.{piece_of, ends, partials, opened_all, Covers, IsComing}

-- ---- settled codes that touch, as one piece
-- these codes before pieces, one with the first of them where that follows at once
abbrev pub codes_before : ℕ → ℕ → List Piece → List Piece
codes_before low high [] = Codes low high ∷ []
codes_before low high (Codes first last ∷ ps) =
    cond (eqb (suc high) first) (Codes low last ∷ ps) (Codes low high ∷ Codes first last ∷ ps)
codes_before low high (Partial n near ∷ ps) = Codes low high ∷ Partial n near ∷ ps

abbrev pub joined : List Piece → List Piece
joined [] = []
joined (Codes low high ∷ ps) = codes_before low high (joined ps)
joined (Partial n near ∷ ps) = Partial n near ∷ joined ps

-- the same, with codes before them that may still grow
abbrev pub joined_after : Option (ℕ × ℕ) → List Piece → List Piece
joined_after None ps = joined ps
joined_after (Some codes) ps = codes_before codes.0 codes.1 (joined ps)

-- ---- what was taken so far
-- the settled codes that may still grow
abbrev pub growing_of : Tail → Option (ℕ × ℕ)
growing_of Start = None
growing_of (Growing first last) = Some (first, last)
growing_of (Closed last) = None

-- the last code
abbrev pub last_of : Tail → Option ℕ
last_of Start = None
last_of (Growing first last) = Some last
last_of (Closed last) = Some last

-- whether codes from low on follow the last code at once
abbrev pub follows : Option ℕ → ℕ → Bool
follows None low = false
follows (Some last) low = eqb (suc last) low

-- how many runs they begin: none where they follow at once
abbrev pub begins : Tail → ℕ → ℕ
begins tail low = cond (follows (last_of tail) low) 0 1

-- how many runs pieces begin behind a last code
abbrev pub runs_behind : Shape → Option ℕ → List Piece → ℕ
runs_behind s last [] = 0
runs_behind s last (p ∷ ps) =
    cond (follows last (ends s p).0) 0 1 + runs_behind s (Some (ends s p).1) ps

-- the last code behind them
abbrev pub last_behind : Shape → Option ℕ → List Piece → Option ℕ
last_behind s last [] = last
last_behind s last (p ∷ ps) = last_behind s (Some (ends s p).1) ps

-- the pieces that were taken, joined, and how many runs and partial nodes they have
pub record HasTaken (s : Shape) (done : List Piece) (front : Front) : Type 0 where
  pub joined : (rest : List Piece)
      → front.pieces.items ++ joined_after (growing_of front.tail) rest ≡ joined (done ++ rest)
  pub last : last_of front.tail ≡ last_behind s None done
  pub runs : front.runs ≡ runs_behind s None done
  pub partial : front.partial ≡ partials done

-- these pieces were taken besides
pub record Takes (s : Shape) (ps : List Piece) (before after : Front) : Type 0 where
  pub joined : (rest : List Piece)
      → after.pieces.items ++ joined_after (growing_of after.tail) rest
      ≡ before.pieces.items ++ joined_after (growing_of before.tail) (ps ++ rest)
  pub last : last_of after.tail ≡ last_behind s (last_of before.tail) ps
  pub runs : after.runs ≡ before.runs + runs_behind s (last_of before.tail) ps
  pub partial : after.partial ≡ before.partial + partials ps

-- the next level: its pieces, joined, and its partial nodes counted; or it has too many runs or
-- partial nodes
abbrev pub HasNext : ℕ → Shape → List Window → ℕ → List Piece → Front → Bool → Type 0
HasNext D s ws target ps next true =
    (next.pieces.items ≡ joined (opened_all D s ws ps))
    × (runs_behind s None (opened_all D s ws ps) ≤ target)
    × (next.partial ≡ partials (opened_all D s ws ps))
    × (partials (opened_all D s ws ps) ≤ 4 * target)
HasNext D s ws target ps next false =
    (target < runs_behind s None (opened_all D s ws ps))
    ⊎ (4 * target < partials (opened_all D s ws ps))

-- the first level: what stands of the root, and its partial nodes counted
pub record HasFirst (D : ℕ) (s : Shape) (ws : List Window) (front : Front) : Type 0 where
  pub pieces : front.pieces.items ≡ joined (option_to_list (piece_of D s ws s.root))
  pub partial : front.partial ≡ partials (option_to_list (piece_of D s ws s.root))

-- the stop level, and pieces that have its level set
pub record IsStopAt (D : ℕ) (s : Shape) (ws : List Window) (Comes : Node → Type 0) (target l : ℕ)
    (ps : List Piece) : Type 0 where
  pub stop : IsStop D s ws target l
  pub covers : (c : ℕ) → Covers s ps c ↔ InLevelSet D s ws l c
  pub rise : All (λ p. (ends s p).0 ≤ (ends s p).1) ps
  pub come : All (λ p. IsComing Comes p) ps
