-- Pieces rise, and their runs are counted as they come.
use Rattle.std.proofs.Common.{◌≡◌, ◌⊎◌, inl, inr, ⊎_elim, ℕ, zero, suc, ◌+◌, ◌-◌, ◌^◌, ◌<◌, ◌≤◌}
use Rattle.std.proofs.Common.{List, [], ◌∷◌, ◌++◌, length, refl, sym, ap, ◌∙◌, subst, arith}
use Rattle.std.specs.Prelude.{true, false, cond, eqb, Option, Some, None, option_to_list}
use Rattle.std.specs.List.{AllByRecursion}
use Rattle.std.proofs.lemmas.Bool.{cases_lt, cond-true, cond-false}
use Rattle.std.proofs.lemmas.Bool.Decides.{eqb_tells}
use Rattle.gm_trees.specs.declared.node.Node.{Node}
use Rattle.gm_trees.specs.declared.window.Window.{Window}
use Rattle.gm_trees.specs.Tree.{Shape, IsTree, IsOwnFirst, own_size}
use Rattle.gm_runs.specs.Runs.{HasNumber, AreRunsFrom, AreMaximalRuns}
use Rattle.gm_split.specs.declared.pieces.Piece.{Piece}
use Rattle.gm_split.specs.declared.pieces.Piece.TheVariants.{Codes, Partial}
use Rattle.gm_split.specs.Opening.{piece_of, own_pieces, child_pieces, opened, opened_all, ends}
use Rattle.gm_split.specs.Opening.{Covers, IsPieceAt}
use Rattle.gm_split.specs.Front.{codes_before, joined, runs_behind}
use Rattle.gm_split.proofs.Parts.{some_children}
use Rattle.gm_split.proofs.Below.{is_in, is_partly, is_apart, lies, inside_piece, partly_piece}
use Rattle.gm_split.proofs.Below.{apart_piece}

-- the pieces lie from a low code on, each behind the one before, and end before a code
abbrev pub RiseTo : Shape → ℕ → ℕ → List Piece → Type 0
RiseTo s low end [] = low ≤ end
RiseTo s low end (p ∷ ps) =
    (low ≤ (ends s p).0) × ((ends s p).0 ≤ (ends s p).1) × RiseTo s ((ends s p).1 + 1) end ps

pub rise_from : (s : Shape) (less low end : ℕ) (ps : List Piece) → less ≤ low → RiseTo s low end ps
    → RiseTo s less end ps
rise_from s less low end [] h rise = omega arith
rise_from s less low end (p ∷ ps) h rise = ((omega (arith, rise.0)), rise.1, rise.2)

pub rise_join : (s : Shape) (low mid end : ℕ) (xs ys : List Piece) → RiseTo s low mid xs
    → RiseTo s mid end ys → RiseTo s low end (xs ++ ys)
rise_join s low mid end [] ys front back = rise_from s low mid end ys front back
rise_join s low mid end (x ∷ xs) ys front back =
    (front.0, front.1, rise_join s ((ends s x).1 + 1) mid end xs ys front.2 back)

-- ---- the runs of pieces that rise
-- a run before others, one with the first of them where that follows at once
abbrev pub run_before : ℕ × ℕ → List (ℕ × ℕ) → List (ℕ × ℕ)
run_before p [] = p ∷ []
run_before p (r ∷ rs) = cond (eqb (suc p.1) r.0) ((p.0, r.1) ∷ rs) (p ∷ r ∷ rs)

abbrev pub merged : Shape → List Piece → List (ℕ × ℕ)
merged s [] = []
merged s (p ∷ ps) = run_before (ends s p) (merged s ps)

-- a run before another: they touch, or not
data Meeting (p r : ℕ × ℕ) (rs : List (ℕ × ℕ)) : Type 0 where
  touching : suc p.1 ≡ r.0 → eqb (suc p.1) r.0 ≡ true → run_before p (r ∷ rs) ≡ (p.0, r.1) ∷ rs
      → Meeting p r rs
  apart : (suc p.1 ≡ r.0 → ⊥) → eqb (suc p.1) r.0 ≡ false → run_before p (r ∷ rs) ≡ p ∷ r ∷ rs
      → Meeting p r rs

meeting : (p r : ℕ × ℕ) (rs : List (ℕ × ℕ)) → Meeting p r rs
meeting p r rs =
    ⊎_elim (λ yes. touching yes.1 yes.0 (cond-true (eqb (suc p.1) r.0) _ _ yes.0))
    (λ no. apart no.1 no.0 (cond-false (eqb (suc p.1) r.0) _ _ no.0)) (eqb_tells (suc p.1) r.0)

before_runs : (low : ℕ) (p : ℕ × ℕ) (rs : List (ℕ × ℕ)) → low ≤ p.0 → p.0 ≤ p.1
    → AreRunsFrom (p.1 + 1) rs → AreRunsFrom low (run_before p rs)
before_runs low p [] from rise runs = (from, rise, tt)
before_runs low p (r ∷ rs) from rise runs =
    elim (meeting p r rs) [
      | touching e _ is ↦
          subst (AreRunsFrom low) (sym is) (from, (omega (arith, e, rise, runs.1)), runs.2)
      | apart e _ is ↦
          subst (AreRunsFrom low) (sym is) (
            from,
            rise,
            (
              (⊎_elim (λ less. omega arith)
                  (λ more. absurd (e (omega (arith, more, runs.0)))) (cases_lt (suc p.1) r.0)),
              runs.1,
              runs.2,
            ),
          )
    ]

before_into : (p : ℕ × ℕ) (rs : List (ℕ × ℕ)) (c : ℕ) → p.0 ≤ p.1 → AreRunsFrom (p.1 + 1) rs
    → ((p.0 ≤ c) × (c ≤ p.1)) ⊎ HasNumber rs c → HasNumber (run_before p rs) c
before_into p [] c rise runs h = h
before_into p (r ∷ rs) c rise runs h =
    elim (meeting p r rs) [
      | touching e _ is ↦
          subst (λ l. HasNumber l c) (sym is)
          (⊎_elim (λ here. inl (here.0, omega (arith, e, here.1, runs.1)))
          (λ old. ⊎_elim (λ first. inl ((omega (arith, e, rise, first.0)), first.1))
          (λ there. inr there) old) h)
      | apart _ _ is ↦ subst (λ l. HasNumber l c) (sym is) h
    ]

before_out : (p : ℕ × ℕ) (rs : List (ℕ × ℕ)) (c : ℕ) → HasNumber (run_before p rs) c
    → ((p.0 ≤ c) × (c ≤ p.1)) ⊎ HasNumber rs c
before_out p [] c h = h
before_out p (r ∷ rs) c h =
    elim (meeting p r rs) [
      | touching e _ is ↦
          ⊎_elim (λ here. ⊎_elim (λ less. inl (here.0, omega (arith, less)))
          (λ more. inr (inl ((omega (arith, e, more)), here.1))) (cases_lt c (suc p.1)))
          (λ there. inr (inr there)) (subst (λ l. HasNumber l c) is h)
      | apart _ _ is ↦ subst (λ l. HasNumber l c) is h
    ]

merged_runs : (s : Shape) (low end : ℕ) (ps : List Piece) → RiseTo s low end ps
    → AreRunsFrom low (merged s ps)
merged_runs s low end [] rise = tt
merged_runs s low end (p ∷ ps) rise =
    before_runs low (ends s p) (merged s ps) rise.0 rise.1
    (merged_runs s ((ends s p).1 + 1) end ps rise.2)

merged_into : (s : Shape) (low end : ℕ) (ps : List Piece) (c : ℕ) → RiseTo s low end ps
    → Covers s ps c → HasNumber (merged s ps) c
merged_into s low end [] c rise h = h
merged_into s low end (p ∷ ps) c rise h =
    before_into (ends s p) (merged s ps) c rise.1 (merged_runs s ((ends s p).1 + 1) end ps rise.2)
    (⊎_elim (λ here. inl here)
    (λ there. inr (merged_into s ((ends s p).1 + 1) end ps c rise.2 there)) h)

merged_out : (s : Shape) (ps : List Piece) (c : ℕ) → HasNumber (merged s ps) c → Covers s ps c
merged_out s [] c h = h
merged_out s (p ∷ ps) c h =
    ⊎_elim (λ here. inl here) (λ there. inr (merged_out s ps c there))
    (before_out (ends s p) (merged s ps) c h)

pub merged_maximal : (s : Shape) (end : ℕ) (ps : List Piece) → RiseTo s 0 end ps
    → AreMaximalRuns (merged s ps) (Covers s ps)
merged_maximal s end ps rise =
    record {
      apart = merged_runs s 0 end ps rise;
      exact = λ c. ((λ h. merged_out s ps c h), (λ h. merged_into s 0 end ps c rise h));
    }

-- ---- their number
-- a run put before others is the first, or begins it
before_head : (p : ℕ × ℕ) (rs : List (ℕ × ℕ))
    → (high : ℕ) × (more : List (ℕ × ℕ)) × (run_before p rs ≡ (p.0, high) ∷ more)
before_head p [] = (p.1, [], refl)
before_head p (r ∷ rs) =
    elim (meeting p r rs) [
      | touching _ _ is ↦ (r.1, rs, is)
      | apart _ _ is ↦ (p.1, r ∷ rs, is)
    ]

before_length : (p : ℕ × ℕ) (q : ℕ) (rs : List (ℕ × ℕ))
    → ((high : ℕ) × (more : List (ℕ × ℕ)) × (rs ≡ (q, high) ∷ more))
    → length (run_before p rs) ≡ cond {A = ℕ} (eqb (suc p.1) q) 0 1 + length rs
before_length p q rs head =
    let r : ℕ × ℕ = (q, head.0) in
    let whole : length (run_before p (r ∷ head.1))
    ≡ cond {A = ℕ} (eqb (suc p.1) q) 0 1 + length (r ∷ head.1) =
    elim (meeting p r head.1) [
      | touching _ t is ↦ let n = cond-true {A = ℕ} (eqb (suc p.1) q) 0 1 t in let e =
          ap length is in omega (arith, n, e)
      | apart _ f is ↦ let n = cond-false {A = ℕ} (eqb (suc p.1) q) 0 1 f in let e = ap length is in
          omega (arith, n, e)
    ] in
    subst (λ l. length (run_before p l) ≡ cond {A = ℕ} (eqb (suc p.1) q) 0 1 + length l)
    (sym head.2) whole

more_length : (s : Shape) (p : ℕ × ℕ) (ps : List Piece)
    → length (run_before p (merged s ps)) ≡ 1 + runs_behind s (Some p.1) ps
more_length s p [] = omega arith
more_length s p (q ∷ qs) =
    omega (
      arith,
      before_length p (ends s q).0 (merged s (q ∷ qs))
          (before_head (ends s q) (merged s qs)),
      more_length s (ends s q) qs,
    )

pub merged_length : (s : Shape) (ps : List Piece) → length (merged s ps) ≡ runs_behind s None ps
merged_length s [] = omega arith
merged_length s (p ∷ ps) = omega (arith, more_length s (ends s p) ps)

-- ---- joined pieces rise
before_rise : (s : Shape) (low end a b : ℕ) (ps : List Piece) → low ≤ a → a ≤ b
    → RiseTo s (b + 1) end ps → RiseTo s low end (codes_before a b ps)
before_rise s low end a b [] from some rise = (from, some, rise)
before_rise s low end a b (Partial n near ∷ ps) from some rise = (from, some, rise)
before_rise s low end a b (Codes first last ∷ ps) from some rise =
    ⊎_elim (λ yes. subst (RiseTo s low end) (sym (cond-true (eqb (suc b) first) _ _ yes.0))
    (from, (omega (arith, some, rise.0, rise.1)), rise.2))
    (λ no. subst (RiseTo s low end) (sym (cond-false (eqb (suc b) first) _ _ no.0))
    (from, some, rise)) (eqb_tells (suc b) first)

pub joined_rise : (s : Shape) (low end : ℕ) (ps : List Piece) → RiseTo s low end ps
    → RiseTo s low end (joined ps)
joined_rise s low end [] rise = rise
joined_rise s low end (Codes a b ∷ ps) rise =
    before_rise s low end a b (joined ps) rise.0 rise.1 (joined_rise s (b + 1) end ps rise.2)
joined_rise s low end (Partial n near ∷ ps) rise =
    (rise.0, rise.1, joined_rise s (s.last n + 1) end ps rise.2)

-- ---- opened pieces rise
module _ (D : ℕ) (s : Shape) (ws : List Window) (Comes : Node → Type 0)
    (tree : IsTree D s Comes) where
  pub piece_rise : (n : Node) → Comes n
      → RiseTo s n.first (s.last n + 1) (option_to_list (piece_of D s ws n))
  piece_rise n comes =
      let some = tree.some_code n comes in
      elim (lies D s ws n) [
        | is_in t ↦ subst (λ o. RiseTo s n.first (s.last n + 1) (option_to_list o))
            (sym (inside_piece D s ws Comes tree n t)) ((omega arith), some, omega arith)
        | is_partly f t ↦
            subst (λ o. RiseTo s n.first (s.last n + 1) (option_to_list o))
            (sym (partly_piece D s ws Comes tree n f t)) ((omega arith), some, omega arith)
        | is_apart f g ↦
            subst (λ o. RiseTo s n.first (s.last n + 1) (option_to_list o))
            (sym (apart_piece D s ws Comes tree n f g)) (omega (arith, some))
      ]

  own_rise : (o : Option ℕ) (first : ℕ) → IsOwnFirst o first
      → RiseTo s first (first + own_size o) (own_pieces o)
  own_rise None first own = omega arith
  own_rise (Some c) first own = ((omega (arith, own)), (omega arith), omega (arith, own))

  -- behind the first children
  edge : Node → ℕ → ℕ
  edge n zero = n.first + own_size (s.own n)
  edge n (suc m) = s.last (s.child n m) + 1

  edge_first : (n : Node) (m : ℕ) → Comes n → n.level < s.depth → m < 2 ^ D
      → edge n m ≡ (s.child n m).first
  unfolding edge
  edge_first n zero comes level few = sym (tree.inner n comes level).first_child
  edge_first n (suc m) comes level few =
      let e : m + 1 ≡ suc m = omega arith in
      sym ((tree.inner n comes level).next_child m (omega arith)) ∙ ap (λ k. (s.child n k).first) e

  children_rise : (n : Node) (m : ℕ) → Comes n → n.level < s.depth → m ≤ 2 ^ D
      → RiseTo s (n.first + own_size (s.own n)) (edge n m) (child_pieces D s ws n m)
  unfolding edge
  children_rise n zero comes level most = omega arith
  children_rise n (suc m) comes level most =
      let few : m < 2 ^ D = omega arith in
      let e = edge_first n m comes level few in
      rise_join s (n.first + own_size (s.own n)) (edge n m) (s.last (s.child n m) + 1)
      (child_pieces D s ws n m) (option_to_list (piece_of D s ws (s.child n m)))
      (children_rise n m comes level (omega arith))
      (rise_from s (edge n m) (s.child n m).first (s.last (s.child n m) + 1)
      (option_to_list (piece_of D s ws (s.child n m))) (omega (arith, e))
      (piece_rise (s.child n m) (tree.child_comes n m comes level few)))

  last_edge : (n : Node) → Comes n → n.level < s.depth → edge n (2 ^ D) ≡ s.last n + 1
  unfolding edge
  last_edge n comes level =
      let some = some_children D in
      let e : 2 ^ D ≡ suc (2 ^ D - 1) = omega arith in
      ap (edge n) e ∙ ap (λ k. k + 1)
      ((tree.inner n comes level).last_child (2 ^ D - 1) (omega arith))

  opened_rise : (n : Node) → Comes n → n.level < s.depth
      → RiseTo s n.first (s.last n + 1) (opened D s ws n)
  opened_rise n comes level =
      let all : RiseTo s (n.first + own_size (s.own n)) (s.last n + 1)
      (child_pieces D s ws n (2 ^ D)) =
      subst (λ end. RiseTo s (n.first + own_size (s.own n)) end (child_pieces D s ws n (2 ^ D)))
      (last_edge n comes level) (children_rise n (2 ^ D) comes level (omega arith)) in
      rise_join s n.first (n.first + own_size (s.own n)) (s.last n + 1) (own_pieces (s.own n))
      (child_pieces D s ws n (2 ^ D))
      (own_rise (s.own n) n.first (tree.inner n comes level).own_first) all

  pub all_rise_to : (l low end : ℕ) (ps : List Piece) → AllByRecursion (IsPieceAt D s Comes ws l) ps
      → l < s.depth → RiseTo s low end ps → RiseTo s low end (opened_all D s ws ps)
  all_rise_to l low end [] stand deep rise = rise
  all_rise_to l low end (Codes a b ∷ ps) stand deep rise =
      (rise.0, rise.1, all_rise_to l (b + 1) end ps stand.1 deep rise.2)
  all_rise_to l low end (Partial n near ∷ ps) stand deep rise =
      rise_join s low (s.last n + 1) end (opened D s ws n) (opened_all D s ws ps)
      (rise_from s low n.first (s.last n + 1) (opened D s ws n) rise.0
      (opened_rise n stand.0.0 (omega (arith, stand.0.1))))
      (all_rise_to l (s.last n + 1) end ps stand.1 deep rise.2)
