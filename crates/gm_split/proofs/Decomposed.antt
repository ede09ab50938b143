-- The pieces of a level are its level set and its partial nodes.
use Rattle.std.proofs.Common.{◌≡◌, inl, inr, ⊎_elim, ℕ, zero, suc, ◌+◌, ◌<◌, ◌≤◌, List, [], ◌∷◌}
use Rattle.std.proofs.Common.{refl, sym, ap, ◌∙◌, subst, arith}
use Rattle.std.specs.Prelude.{true, cond, not, option_to_list}
use Rattle.std.specs.List.{AllByRecursion}
use Rattle.std.proofs.lemmas.Bool.{and_parts, cond-true}
use Rattle.gm_trees.specs.declared.node.Node.{Node}
use Rattle.gm_trees.specs.declared.window.Window.{Window}
use Rattle.gm_trees.specs.Tree.{Shape, IsTree, walk}
use Rattle.gm_runs.specs.Runs.{AreMaximalRuns}
use Rattle.gm_split.specs.RunLaws.{RunLaws}
use Rattle.gm_split.specs.declared.pieces.Piece.{Piece}
use Rattle.gm_split.specs.declared.pieces.Piece.TheVariants.{Codes, Partial}
use Rattle.gm_split.specs.Windows.{meets, is_inside, is_partial}
use Rattle.gm_split.specs.Levels.{IsStem, InLevelSet, partial_count}
use Rattle.gm_split.specs.Opening.{piece_of, opened_all, partials, ends, Covers, IsPieceAt}
use Rattle.gm_split.specs.Opening.{IsComing}
use Rattle.gm_split.proofs.Below.{InBelow, InPieces, pieces_count, piece_into, piece_out}
use Rattle.gm_split.proofs.Below.{piece_counts, piece_stands, all_into, all_out, all_count}
use Rattle.gm_split.proofs.Below.{all_stand}

-- the pieces of level l hold what each level from l on is made of
pub record Decomposes (D : ℕ) (s : Shape) (ws : List Window) (Comes : Node → Type 0) (l : ℕ)
    (ps : List Piece) : Type 0 where
  pub within : l ≤ s.depth
  pub stand : AllByRecursion (IsPieceAt D s Comes ws l) ps
  pub into : (k c : ℕ) → l + k ≤ s.depth → InBelow D s ws (l + k) s.root c → InPieces D s ws k ps c
  pub out : (k c : ℕ) → l + k ≤ s.depth → InPieces D s ws k ps c → InBelow D s ws (l + k) s.root c
  pub count : (k : ℕ) → l + k ≤ s.depth
      → partial_count D s ws (l + k) s.root ≡ pieces_count D s ws k ps

-- ---- by paths and by recursion
pub below_from_path : (D : ℕ) (s : Shape) (ws : List Window) (l : ℕ) (n : Node) (c : ℕ)
    (path : List ℕ) → IsStem D s n l c path → meets D ws (s.reach (walk s n path)) ≡ true
    → InBelow D s ws l n c
below_from_path D s ws zero n c [] stem meet =
    ⊎_elim (λ at. (at.1, meet)) (λ above. absurd (omega (arith, above.0))) stem.stands
below_from_path D s ws (suc l) n c [] stem meet =
    ⊎_elim (λ at. absurd (omega (arith, at.0))) (λ above. inl (above.1, meet)) stem.stands
below_from_path D s ws zero n c (q ∷ qs) stem meet =
    absurd (⊎_elim (λ at. omega (arith, at.0)) (λ above. omega (arith, above.0)) stem.stands)
below_from_path D s ws (suc l) n c (q ∷ qs) stem meet =
    inr (
      q,
      stem.members.0,
      below_from_path D s ws l (s.child n q) c qs
          (record {
            members = stem.members.1;
            stands = ⊎_elim (λ at. inl ((omega (arith, at.0)), at.1))
                (λ above. inr ((omega (arith, above.0)), above.1)) stem.stands;
          }) meet,
    )

pub path_from_below : (D : ℕ) (s : Shape) (ws : List Window) (l : ℕ) (n : Node) (c : ℕ)
    → InBelow D s ws l n c
    → (path : List ℕ) × IsStem D s n l c path × (meets D ws (s.reach (walk s n path)) ≡ true)
path_from_below D s ws zero n c h = ([], record { members = tt; stands = inl (refl, h.0) }, h.1)
path_from_below D s ws (suc l) n c h =
    ⊎_elim (λ own. ([], record { members = tt; stands = inr ((omega arith), own.0) }, own.1))
    (λ below.
    let path = path_from_below D s ws l (s.child n below.0) c below.2 in (
      below.0 ∷ path.0,
      record {
        members = (below.1, path.1.members);
        stands = ⊎_elim (λ at. inl ((omega (arith, at.0)), at.1))
            (λ above. inr ((omega (arith, above.0)), above.1)) path.1.stands;
      },
      path.2,
    )) h

module _ (D : ℕ) (s : Shape) (ws : List Window) (Comes : Node → Type 0)
    (tree : IsTree D s Comes) where
  pub decomposes_start : Decomposes D s ws Comes 0 (option_to_list (piece_of D s ws s.root))
  decomposes_start = record {
    within = omega arith;
    stand = piece_stands D s ws Comes tree s.root 0 tree.root_comes tree.root_level;
    into = λ k c deep h. let e : 0 + k ≡ k = omega arith in
        piece_into D s ws Comes tree k s.root c tree.root_comes (omega (arith, tree.root_level))
        (subst (λ i. InBelow D s ws i s.root c) e h);
    out = λ k c deep h. let e : k ≡ 0 + k = omega arith in
        subst (λ i. InBelow D s ws i s.root c) e
        (piece_out D s ws Comes tree k s.root c tree.root_comes
        (omega (arith, tree.root_level)) h);
    count = λ k deep. let e : 0 + k ≡ k = omega arith in
        ap (λ i. partial_count D s ws i s.root) e
        ∙ sym (piece_counts D s ws Comes tree k s.root tree.root_comes
        (omega (arith, tree.root_level)));
  }

  -- one level more
  pub decomposes_next : (l : ℕ) (ps : List Piece) → l < s.depth → Decomposes D s ws Comes l ps
      → Decomposes D s ws Comes (l + 1) (opened_all D s ws ps)
  decomposes_next l ps more d = record {
    within = omega arith;
    stand = all_stand D s ws Comes tree l ps d.stand more;
    into = λ k c deep h. let e : l + 1 + k ≡ l + suc k = omega arith in
        all_into D s ws Comes tree k l ps c d.stand (omega arith)
        (d.into (suc k) c (omega arith) (subst (λ i. InBelow D s ws i s.root c) e h));
    out = λ k c deep h. let e : l + suc k ≡ l + 1 + k = omega arith in
        subst (λ i. InBelow D s ws i s.root c) e
        (d.out (suc k) c (omega arith)
        (all_out D s ws Comes tree k l ps c d.stand (omega arith) h));
    count = λ k deep. let e : l + 1 + k ≡ l + suc k = omega arith in
        ap (λ i. partial_count D s ws i s.root) e ∙ d.count (suc k) (omega arith)
        ∙ sym (all_count D s ws Comes tree k l ps d.stand (omega arith));
  }

-- ---- at the level itself
pub covers_into : (D : ℕ) (s : Shape) (ws : List Window) (Comes : Node → Type 0) (l : ℕ)
    (ps : List Piece) (c : ℕ) → InPieces D s ws 0 ps c → Covers s ps c
covers_into D s ws Comes l [] c h = h
covers_into D s ws Comes l (Codes low high ∷ ps) c h =
    ⊎_elim (λ here. inl here) (λ there. inr (covers_into D s ws Comes l ps c there)) h
covers_into D s ws Comes l (Partial n near ∷ ps) c h =
    ⊎_elim (λ here. inl here.0) (λ there. inr (covers_into D s ws Comes l ps c there)) h

pub covers_out : (D : ℕ) (s : Shape) (ws : List Window) (Comes : Node → Type 0) (l : ℕ)
    (ps : List Piece) (c : ℕ) → AllByRecursion (IsPieceAt D s Comes ws l) ps → Covers s ps c
    → InPieces D s ws 0 ps c
covers_out D s ws Comes l [] c stand h = h
covers_out D s ws Comes l (Codes low high ∷ ps) c stand h =
    ⊎_elim (λ here. inl here) (λ there. inr (covers_out D s ws Comes l ps c stand.1 there)) h
covers_out D s ws Comes l (Partial n near ∷ ps) c stand h =
    ⊎_elim (λ here. inl
    (here, (and_parts (meets D ws (s.reach n)) (not (is_inside D ws (s.reach n))) stand.0.2).0))
    (λ there. inr (covers_out D s ws Comes l ps c stand.1 there)) h

pub counts_partials : (D : ℕ) (s : Shape) (ws : List Window) (Comes : Node → Type 0) (l : ℕ)
    (ps : List Piece) → AllByRecursion (IsPieceAt D s Comes ws l) ps
    → pieces_count D s ws 0 ps ≡ partials ps
counts_partials D s ws Comes l [] stand = refl
counts_partials D s ws Comes l (Codes low high ∷ ps) stand =
    omega (arith, counts_partials D s ws Comes l ps stand.1)
counts_partials D s ws Comes l (Partial n near ∷ ps) stand =
    let one : cond {A = ℕ} (is_partial D ws (s.reach n)) 1 0 ≡ 1 =
    cond-true {A = ℕ} (is_partial D ws (s.reach n)) 1 0 stand.0.2 in
    omega (arith, one, counts_partials D s ws Comes l ps stand.1)

module _ (D : ℕ) (s : Shape) (ws : List Window) (Comes : Node → Type 0) (tree : IsTree D s Comes)
    (l : ℕ) (ps : List Piece) (d : Decomposes D s ws Comes l ps) where
  -- the level set is what the pieces cover
  pub level_into : (c : ℕ) → InLevelSet D s ws l c → Covers s ps c
  level_into c h = let e : l ≡ l + 0 = omega arith in
      covers_into D s ws Comes l ps c
      (d.into 0 c (let w = d.within in omega arith)
      (subst (λ i. InBelow D s ws i s.root c) e
      (below_from_path D s ws l s.root c h.0 h.1 h.2)))

  pub level_out : (c : ℕ) → Covers s ps c → InLevelSet D s ws l c
  level_out c h = let e : l + 0 ≡ l = omega arith in
      path_from_below D s ws l s.root c
      (subst (λ i. InBelow D s ws i s.root c) e
      (d.out 0 c (let w = d.within in omega arith)
      (covers_out D s ws Comes l ps c d.stand h)))

  -- there are as many partial nodes as partial pieces
  pub level_count : partial_count D s ws l s.root ≡ partials ps
  level_count = let e : l ≡ l + 0 = omega arith in
      ap (λ i. partial_count D s ws i s.root) e ∙ d.count 0 (let w = d.within in omega arith)
      ∙ counts_partials D s ws Comes l ps d.stand

  pub level_runs : (rs : List (ℕ × ℕ)) → AreMaximalRuns rs (Covers s ps)
      → AreMaximalRuns rs (InLevelSet D s ws l)
  level_runs rs runs =
      record {
        apart = runs.apart;
        exact = λ c. (
          (λ h. level_out c ((runs.exact c).0 h)),
          (λ h. (runs.exact c).1 (level_into c h)),
        );
      }

-- a set has one list of maximal runs
pub only_runs : RunLaws → (S : ℕ → Type 0) (rs others : List (ℕ × ℕ)) → AreMaximalRuns rs S
    → AreMaximalRuns others S → rs ≡ others
only_runs laws S rs others runs more =
    laws.one rs others runs.apart more.apart
    (λ c. (
      (λ h. (more.exact c).1 ((runs.exact c).0 h)),
      (λ h. (runs.exact c).1 ((more.exact c).0 h)),
    ))

-- ---- what the pieces of a level are, at each index
pub all_rise : (D : ℕ) (s : Shape) (ws : List Window) (Comes : Node → Type 0)
    (tree : IsTree D s Comes) (l : ℕ) (ps : List Piece)
    → AllByRecursion (IsPieceAt D s Comes ws l) ps
    → AllByRecursion (λ p. (ends s p).0 ≤ (ends s p).1) ps
all_rise D s ws Comes tree l [] stand = tt
all_rise D s ws Comes tree l (Codes low high ∷ ps) stand =
    (stand.0, all_rise D s ws Comes tree l ps stand.1)
all_rise D s ws Comes tree l (Partial n near ∷ ps) stand =
    (tree.some_code n stand.0.0, all_rise D s ws Comes tree l ps stand.1)

pub all_come : (D : ℕ) (s : Shape) (ws : List Window) (Comes : Node → Type 0) (l : ℕ)
    (ps : List Piece) → AllByRecursion (IsPieceAt D s Comes ws l) ps
    → AllByRecursion (IsComing Comes) ps
all_come D s ws Comes l [] stand = tt
all_come D s ws Comes l (Codes low high ∷ ps) stand = (tt, all_come D s ws Comes l ps stand.1)
all_come D s ws Comes l (Partial n near ∷ ps) stand =
    (stand.0.0, all_come D s ws Comes l ps stand.1)
