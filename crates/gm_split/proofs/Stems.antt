-- A code has exactly one stem at each level.
use Rattle.std.proofs.Common.{◌≡◌, inl, inr, ⊎_elim, ℕ, zero, suc, ◌+◌, ◌^◌, ◌<◌, ◌≤◌, List, []}
use Rattle.std.proofs.Common.{◌∷◌, length, refl, sym, ap, ◌∙◌, subst, arith}
use Rattle.std.specs.Prelude.{Option, Some, None, take}
use Rattle.std.proofs.lemmas.Bool.{cases_lt, cases_order}
use Rattle.gm_trees.specs.declared.node.Node.{Node}
use Rattle.gm_trees.specs.declared.window.Window.{Window}
use Rattle.gm_trees.specs.Tree.{Shape, HasCode, IsTree, own_size, walk}
use Rattle.gm_split.specs.Levels.{IsStem, IsOneStem}
use Rattle.gm_split.proofs.Parts.{own_code, child_from, child_some, code_down}
use Rattle.gm_split.proofs.Covering.{codes_up, comes_down, own_has}

size_of_own : (o : Option ℕ) (c : ℕ) → o ≡ Some c → own_size o ≡ 1
size_of_own None c h = absurd cc
size_of_own (Some d) c h = refl

module _ (D : ℕ) (s : Shape) (ws : List Window) (Comes : Node → Type 0)
    (tree : IsTree D s Comes) where
  -- the codes of children are in order
  child_order : (n : Node) (q r : ℕ) → Comes n → n.level < s.depth → q < r → r < 2 ^ D
      → s.last (s.child n q) < (s.child n r).first
  child_order n q zero comes level less few = absurd (omega arith)
  child_order n q (suc r) comes level less few =
      let next = (tree.inner n comes level).next_child r (omega arith) in
      let e : r + 1 ≡ suc r = omega arith in
      let at = ap (λ k. (s.child n k).first) e in
      let few_less : r < 2 ^ D = omega arith in
      ⊎_elim (λ earlier. omega (
        arith,
        next,
        at,
        child_order n q r comes level earlier few_less,
        child_some D s Comes tree n r comes level few_less,
      ))
      (λ here. let f = ap (λ k. s.last (s.child n k)) (let g : q ≡ r = omega arith in g) in
      omega (arith, next, at, f)) (cases_lt q r)

  -- a code with a stem under a node is one of the node's
  pub stem_code : (l : ℕ) (n : Node) (c : ℕ) (path : List ℕ) → Comes n → n.level + l ≤ s.depth
      → IsStem D s n l c path → HasCode s n c
  stem_code l n c path comes deep stem =
      let short : length path ≤ l =
      ⊎_elim (λ at. omega (arith, at.0)) (λ above. omega (arith, above.0)) stem.stands in
      let down = comes_down D s ws Comes tree n path comes (omega (arith, short)) stem.members in
      codes_up D s ws Comes tree n path c comes (omega (arith, short)) stem.members
      (⊎_elim (λ at. at.1)
      (λ above. own_has D s ws Comes tree (walk s n path) c down.0
      (omega (arith, down.1, short)) above.1) stem.stands)

  stem_tail : (l : ℕ) (n : Node) (c q : ℕ) (qs : List ℕ) → IsStem D s n (suc l) c (q ∷ qs)
      → IsStem D s (s.child n q) l c qs
  stem_tail l n c q qs stem =
      record {
        members = stem.members.1;
        stands = ⊎_elim (λ at. inl ((omega (arith, at.0)), at.1))
            (λ above. inr ((omega (arith, above.0)), above.1)) stem.stands;
      }

  tail_code : (l : ℕ) (n : Node) (c q : ℕ) (qs : List ℕ) → Comes n → n.level + suc l ≤ s.depth
      → IsStem D s n (suc l) c (q ∷ qs) → HasCode s (s.child n q) c
  tail_code l n c q qs comes deep stem =
      let level : n.level < s.depth = omega arith in
      stem_code l (s.child n q) c qs (tree.child_comes n q comes level stem.members.0)
      (omega (arith, tree.child_level n q comes level stem.members.0))
      (stem_tail l n c q qs stem)

  own_or_child : (l : ℕ) (n : Node) (c q : ℕ) (qs : List ℕ) → Comes n → n.level + suc l ≤ s.depth
      → IsStem D s n (suc l) c [] → IsStem D s n (suc l) c (q ∷ qs) → ⊥
  own_or_child l n c q qs comes deep one other =
      let level : n.level < s.depth = omega arith in
      let own : s.own n ≡ Some c =
      ⊎_elim (λ at. absurd (omega (arith, at.0))) (λ above. above.1) one.stands in
      let first = own_code (s.own n) n.first c (tree.inner n comes level).own_first own in
      let has = tail_code l n c q qs comes deep other in
      omega (
        arith,
        first,
        has.0,
        size_of_own (s.own n) c own,
        child_from D s Comes tree n q comes level other.members.0,
      )

  pub one_stem : (l : ℕ) (n : Node) (c : ℕ) (path other : List ℕ) → Comes n → n.level + l ≤ s.depth
      → IsStem D s n l c path → IsStem D s n l c other → path ≡ other
  one_stem l n c [] [] comes deep one two = refl
  one_stem zero n c (q ∷ qs) other comes deep one two =
      absurd (⊎_elim (λ at. omega (arith, at.0)) (λ above. omega (arith, above.0)) one.stands)
  one_stem zero n c [] (r ∷ rs) comes deep one two =
      absurd (⊎_elim (λ at. omega (arith, at.0)) (λ above. omega (arith, above.0)) two.stands)
  one_stem (suc l) n c [] (r ∷ rs) comes deep one two =
      absurd (own_or_child l n c r rs comes deep one two)
  one_stem (suc l) n c (q ∷ qs) [] comes deep one two =
      absurd (own_or_child l n c q qs comes deep two one)
  one_stem (suc l) n c (q ∷ qs) (r ∷ rs) comes deep one two =
      let level : n.level < s.depth = omega arith in
      let here = tail_code l n c q qs comes deep one in
      let there = tail_code l n c r rs comes deep two in
      let same : q ≡ r =
      ⊎_elim (λ e. e)
      (λ apart. absurd
      (⊎_elim (λ less. omega
      (arith, here.1, there.0, child_order n q r comes level less two.members.0))
      (λ more. omega (
        arith,
        here.0,
        there.1,
        child_order n r q comes level more one.members.0,
      )) apart))
      (cases_order q r) in
      let two_here : IsStem D s (s.child n q) l c rs =
      subst (λ k. IsStem D s (s.child n k) l c rs) (sym same) (stem_tail l n c r rs two) in
      let rest : qs ≡ rs =
      one_stem l (s.child n q) c qs rs (tree.child_comes n q comes level one.members.0)
      (omega (arith, tree.child_level n q comes level one.members.0))
      (stem_tail l n c q qs one) two_here in
      ap (λ k. k ∷ qs) same ∙ ap (λ ks. r ∷ ks) rest

  -- every code of a node has a stem
  pub some_stem : (l : ℕ) (n : Node) (c : ℕ) → Comes n → n.level + l ≤ s.depth → HasCode s n c
      → (path : List ℕ) × IsStem D s n l c path
  some_stem zero n c comes deep has = ([], record { members = tt; stands = inl (refl, has) })
  some_stem (suc l) n c comes deep has =
      let level : n.level < s.depth = omega arith in
      ⊎_elim (λ own. ([], record { members = tt; stands = inr ((omega arith), own) }))
      (λ below.
      let at = tree.child_level n below.0 comes level below.1 in
      let path = some_stem l (s.child n below.0) c (tree.child_comes n below.0 comes level below.1)
      (omega (arith, at)) below.2 in (
        below.0 ∷ path.0,
        record {
          members = (below.1, path.1.members);
          stands = ⊎_elim (λ h. inl ((omega (arith, h.0)), h.1))
              (λ h. inr ((omega (arith, h.0)), h.1)) path.1.stands;
        },
      ))
      (code_down D s Comes tree n c comes level has)

  -- a stem cut at a level is a stem there
  pub cut_stem : (l k : ℕ) (n : Node) (c : ℕ) (path : List ℕ) → Comes n → n.level + k ≤ s.depth
      → l ≤ k → IsStem D s n k c path → IsStem D s n l c (take l path)
  cut_stem zero k n c path comes deep less stem =
      record { members = tt; stands = inl (refl, stem_code k n c path comes deep stem) }
  cut_stem (suc l) k n c [] comes deep less stem =
      record {
        members = tt;
        stands = inr (
          (omega arith),
          ⊎_elim (λ at. absurd (omega (arith, at.0))) (λ above. above.1) stem.stands,
        );
      }
  cut_stem (suc l) zero n c (q ∷ qs) comes deep less stem = absurd (omega arith)
  cut_stem (suc l) (suc k) n c (q ∷ qs) comes deep less stem =
      let level : n.level < s.depth = omega arith in
      let at = tree.child_level n q comes level stem.members.0 in
      let cut = cut_stem l k (s.child n q) c qs (tree.child_comes n q comes level stem.members.0)
      (omega (arith, at)) (omega arith) (stem_tail k n c q qs stem) in
      record {
        members = (stem.members.0, cut.members);
        stands = ⊎_elim (λ h. inl ((omega (arith, h.0)), h.1))
            (λ h. inr ((omega (arith, h.0)), h.1)) cut.stands;
      }

  pub only_stem : (l c : ℕ) → l ≤ s.depth → HasCode s s.root c
      → (path : List ℕ) × IsOneStem D s l c path
  only_stem l c within has =
      let deep : s.root.level + l ≤ s.depth = omega (arith, tree.root_level) in
      let most : s.root.level + s.depth ≤ s.depth = omega (arith, tree.root_level) in
      let path = some_stem l s.root c tree.root_comes deep has in (
        path.0,
        record {
          stem = path.1;
          only = λ other stem. one_stem l s.root c other path.0 tree.root_comes deep stem path.1;
          cut = λ node at. one_stem l s.root c path.0 (take l node) tree.root_comes deep path.1
              (cut_stem l s.depth s.root c node tree.root_comes most within at);
        },
      )
