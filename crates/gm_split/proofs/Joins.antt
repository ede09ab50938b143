-- Joined pieces hold the same.
use Rattle.std.proofs.Common.{◌≡◌, ◌⊎◌, inl, inr, ⊎_elim, ℕ, suc, ◌≤◌, List, [], ◌∷◌, refl, sym, ap}
use Rattle.std.proofs.Common.{◌∙◌, subst, arith}
use Rattle.std.specs.Prelude.{eqb}
use Rattle.std.specs.List.{AllByRecursion}
use Rattle.std.proofs.lemmas.Bool.{cases_lt, cond-true, cond-false}
use Rattle.std.proofs.lemmas.Bool.Decides.{eqb_tells}
use Rattle.gm_trees.specs.declared.node.Node.{Node}
use Rattle.gm_trees.specs.declared.window.Window.{Window}
use Rattle.gm_trees.specs.Tree.{Shape}
use Rattle.gm_runs.specs.Runs.{AreMaximalRuns}
use Rattle.gm_split.specs.declared.pieces.Piece.{Piece}
use Rattle.gm_split.specs.declared.pieces.Piece.TheVariants.{Codes, Partial}
use Rattle.gm_split.specs.Opening.{partials, Covers, IsPieceAt}
use Rattle.gm_split.specs.Front.{codes_before, joined}
use Rattle.gm_split.proofs.Below.{InPieces, InPiece, pieces_count}
use Rattle.gm_split.proofs.Decomposed.{Decomposes}

-- codes before codes: they touch, or not
data Meeting (low high first last : ℕ) (ps : List Piece) : Type 0 where
  touching : suc high ≡ first → codes_before low high (Codes first last ∷ ps) ≡ Codes low last ∷ ps
      → Meeting low high first last ps
  apart : (suc high ≡ first → ⊥)
      → codes_before low high (Codes first last ∷ ps) ≡ Codes low high ∷ Codes first last ∷ ps
      → Meeting low high first last ps

meeting : (low high first last : ℕ) (ps : List Piece) → Meeting low high first last ps
meeting low high first last ps =
    ⊎_elim (λ yes. touching yes.1 (cond-true (eqb (suc high) first) _ _ yes.0))
    (λ no. apart no.1 (cond-false (eqb (suc high) first) _ _ no.0)) (eqb_tells (suc high) first)

-- ---- partial nodes
module _ (measure : List Piece → ℕ)
    (codes : (low high : ℕ) (ps : List Piece) → measure (Codes low high ∷ ps) ≡ measure ps) where
  before_measure : (low high : ℕ) (ps : List Piece)
      → measure (codes_before low high ps) ≡ measure ps
  before_measure low high [] = codes low high []
  before_measure low high (Partial n near ∷ ps) = codes low high (Partial n near ∷ ps)
  before_measure low high (Codes first last ∷ ps) =
      elim (meeting low high first last ps) [
        | touching _ is ↦ ap measure is ∙ codes low last ps ∙ sym (codes first last ps)
        | apart _ is ↦ ap measure is ∙ codes low high (Codes first last ∷ ps)
      ]

pub joined_partials : (ps : List Piece) → partials (joined ps) ≡ partials ps
joined_partials [] = refl
joined_partials (Codes low high ∷ ps) =
    omega (
      arith,
      before_measure partials (λ _ _ _. omega arith) low high (joined ps),
      joined_partials ps,
    )
joined_partials (Partial n near ∷ ps) = omega (arith, joined_partials ps)

joined_count : (D : ℕ) (s : Shape) (ws : List Window) (k : ℕ) (ps : List Piece)
    → pieces_count D s ws k (joined ps) ≡ pieces_count D s ws k ps
joined_count D s ws k [] = refl
joined_count D s ws k (Codes low high ∷ ps) =
    omega (
      arith,
      before_measure (pieces_count D s ws k) (λ _ _ _. omega arith) low high
          (joined ps),
      joined_count D s ws k ps,
    )
joined_count D s ws k (Partial n near ∷ ps) = omega (arith, joined_count D s ws k ps)

module _ (D : ℕ) (s : Shape) (Comes : Node → Type 0) (ws : List Window) (l : ℕ) where
  abbrev Stand : List Piece → Type 0
  Stand ps = AllByRecursion (IsPieceAt D s Comes ws l) ps

  before_stand : (low high : ℕ) (ps : List Piece) → low ≤ high → Stand ps
      → Stand (codes_before low high ps)
  before_stand low high [] rise all = (rise, tt)
  before_stand low high (Partial n near ∷ ps) rise all = (rise, all)
  before_stand low high (Codes first last ∷ ps) rise all =
      elim (meeting low high first last ps) [
        | touching e is ↦ subst Stand (sym is) ((omega (arith, e, rise, all.0)), all.1)
        | apart _ is ↦ subst Stand (sym is) (rise, all)
      ]

  joined_stand : (ps : List Piece) → Stand ps → Stand (joined ps)
  joined_stand [] all = all
  joined_stand (Codes low high ∷ ps) all =
      before_stand low high (joined ps) all.0 (joined_stand ps all.1)
  joined_stand (Partial n near ∷ ps) all = (all.0, joined_stand ps all.1)

  -- ---- what is in them, for each meaning of a partial node
  module _ (Held : List Piece → ℕ → Type 0) (Of : Node → ℕ → Type 0)
      (codes_in : (low high : ℕ) (ps : List Piece) (c : ℕ) → ((low ≤ c) × (c ≤ high)) ⊎ Held ps c
      → Held (Codes low high ∷ ps) c)
      (codes_out : (low high : ℕ) (ps : List Piece) (c : ℕ) → Held (Codes low high ∷ ps) c
      → ((low ≤ c) × (c ≤ high)) ⊎ Held ps c)
      (node_in : (n : Node) (near : ℕ) (ps : List Piece) (c : ℕ) → Of n c ⊎ Held ps c
      → Held (Partial n near ∷ ps) c)
      (node_out : (n : Node) (near : ℕ) (ps : List Piece) (c : ℕ) → Held (Partial n near ∷ ps) c
      → Of n c ⊎ Held ps c) where
    before_in : (low high : ℕ) (ps : List Piece) (c : ℕ) → low ≤ high → Stand ps
        → ((low ≤ c) × (c ≤ high)) ⊎ Held ps c → Held (codes_before low high ps) c
    before_in low high [] c rise all h = codes_in low high [] c h
    before_in low high (Partial n near ∷ ps) c rise all h =
        codes_in low high (Partial n near ∷ ps) c h
    before_in low high (Codes first last ∷ ps) c rise all h =
        elim (meeting low high first last ps) [
          | touching e is ↦ subst (λ xs. Held xs c) (sym is) (codes_in low last ps c
              (⊎_elim (λ here. inl (here.0, (omega (arith, e, here.1, all.0))))
              (λ there. ⊎_elim (λ at. inl ((omega (arith, e, rise, at.0)), at.1)) (λ rest. inr rest)
              (codes_out first last ps c there)) h))
          | apart _ is ↦
              subst (λ xs. Held xs c) (sym is) (codes_in low high (Codes first last ∷ ps) c h)
        ]

    before_out : (low high : ℕ) (ps : List Piece) (c : ℕ) → Held (codes_before low high ps) c
        → ((low ≤ c) × (c ≤ high)) ⊎ Held ps c
    before_out low high [] c h = codes_out low high [] c h
    before_out low high (Partial n near ∷ ps) c h = codes_out low high (Partial n near ∷ ps) c h
    before_out low high (Codes first last ∷ ps) c h =
        elim (meeting low high first last ps) [
          | touching e is ↦ ⊎_elim
              (λ at. ⊎_elim (λ over. inr
              (codes_in first last ps c (inl ((omega (arith, e, over)), at.1))))
              (λ under. inl (at.0, under)) (cases_lt high c))
              (λ rest. inr (codes_in first last ps c (inr rest)))
              (codes_out low last ps c (subst (λ xs. Held xs c) is h))
          | apart _ is ↦ codes_out low high (Codes first last ∷ ps) c (subst (λ xs. Held xs c) is h)
        ]

    joined_in : (ps : List Piece) (c : ℕ) → Stand ps → Held ps c → Held (joined ps) c
    joined_in [] c all h = h
    joined_in (Codes low high ∷ ps) c all h =
        before_in low high (joined ps) c all.0 (joined_stand ps all.1)
        (⊎_elim (λ here. inl here) (λ there. inr (joined_in ps c all.1 there))
        (codes_out low high ps c h))
    joined_in (Partial n near ∷ ps) c all h =
        node_in n near (joined ps) c
        (⊎_elim (λ here. inl here) (λ there. inr (joined_in ps c all.1 there))
        (node_out n near ps c h))

    joined_out : (ps : List Piece) (c : ℕ) → Held (joined ps) c → Held ps c
    joined_out [] c h = h
    joined_out (Codes low high ∷ ps) c h =
        codes_in low high ps c
        (⊎_elim (λ here. inl here) (λ there. inr (joined_out ps c there))
        (before_out low high (joined ps) c h))
    joined_out (Partial n near ∷ ps) c h =
        node_in n near ps c
        (⊎_elim (λ here. inl here) (λ there. inr (joined_out ps c there))
        (node_out n near (joined ps) c h))

-- ---- the pieces of a level
module _ (D : ℕ) (s : Shape) (ws : List Window) (Comes : Node → Type 0) (l : ℕ) (ps : List Piece)
    (d : Decomposes D s ws Comes l ps) where
  pub joined_decomposes : Decomposes D s ws Comes l (joined ps)
  joined_decomposes = record {
    within = d.within;
    stand = joined_stand D s Comes ws l ps d.stand;
    into = λ k c deep h. joined_in D s Comes ws l (InPieces D s ws k)
        (λ n. InPiece D s ws k (Partial n 0)) (λ _ _ _ _ x. x) (λ _ _ _ _ x. x) (λ _ _ _ _ x. x)
        (λ _ _ _ _ x. x) ps c d.stand (d.into k c deep h);
    out = λ k c deep h. d.out k c deep
        (joined_out D s Comes ws l (InPieces D s ws k) (λ n. InPiece D s ws k (Partial n 0))
        (λ _ _ _ _ x. x) (λ _ _ _ _ x. x) (λ _ _ _ _ x. x) (λ _ _ _ _ x. x) ps c h);
    count = λ k deep. d.count k deep ∙ sym (joined_count D s ws k ps);
  }

  pub joined_runs : (rs : List (ℕ × ℕ)) → AreMaximalRuns rs (Covers s ps)
      → AreMaximalRuns rs (Covers s (joined ps))
  joined_runs rs runs = record {
    apart = runs.apart;
    exact = λ c. (
      (λ h. joined_in D s Comes ws l (Covers s) (λ n a. (n.first ≤ a) × (a ≤ s.last n))
          (λ _ _ _ _ x. x) (λ _ _ _ _ x. x) (λ _ _ _ _ x. x) (λ _ _ _ _ x. x) ps c d.stand
          ((runs.exact c).0 h)),
      (λ h. (runs.exact c).1
          (joined_out D s Comes ws l (Covers s) (λ n a. (n.first ≤ a) × (a ≤ s.last n))
          (λ _ _ _ _ x. x) (λ _ _ _ _ x. x) (λ _ _ _ _ x. x) (λ _ _ _ _ x. x) ps c h)),
    );
  }
