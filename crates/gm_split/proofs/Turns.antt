-- The turns of the loops that open nodes.
use Rattle.std.proofs.Common.{◌≡◌, ℕ, suc, ◌+◌, ◌*◌, ◌^◌, ◌<◌, ◌≤◌, List, ◌∷◌, length, drop, get_or}
use Rattle.std.proofs.Common.{ap, ◌∙◌, arith}
use Rattle.std.proofs.Math.Seq.{drop-cons}
use Rattle.gm_trees.specs.declared.window.Window.{Window}
use Rattle.gm_trees.specs.Tree.{Shape}
use Rattle.gm_split.specs.declared.pieces.Piece.{Piece}
use Rattle.gm_split.specs.Opening.{weight, partials}

module _ (D : ℕ) (s : Shape) (ws : List Window) (ps : List Piece) (i : ℕ) (d : Piece)
    (inside : i < length ps) where
  next : drop i ps ≡ get_or ps i d ∷ drop (i + 1) ps
  next = let e : suc i ≡ i + 1 = omega arith in
      drop-cons ps i d inside ∙ ap (λ k. get_or ps i d ∷ drop k ps) e

  pub piece_steps : (now more most : ℕ) → now + 2 ^ D * partials (drop i ps) ≤ most
      → more ≤ now + 2 ^ D * weight (get_or ps i d)
      → more + 2 ^ D * partials (drop (i + 1) ps) ≤ most
  piece_steps now more most before after =
      let e : 2 ^ D * partials (drop i ps)
      ≡ 2 ^ D * weight (get_or ps i d) + 2 ^ D * partials (drop (i + 1) ps) =
      ap (λ k. 2 ^ D * partials k) next ∙ grind arith in
      omega (arith, before, after, e)
