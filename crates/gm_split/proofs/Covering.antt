-- What the level sets cover, and that a code has one stem.
use Rattle.std.proofs.Common.{◌≡◌, ◌⊎◌, inl, inr, ⊎_elim, ℕ, zero, suc, ◌+◌, ◌<◌, ◌≤◌, List, []}
use Rattle.std.proofs.Common.{◌∷◌, length, refl, arith}
use Rattle.std.specs.Prelude.{true, Some}
use Rattle.std.proofs.lemmas.Bool.{cases_lt}
use Rattle.gm_trees.specs.declared.node.Node.{Node}
use Rattle.gm_trees.specs.declared.window.Window.{Window}
use Rattle.gm_trees.specs.Tree.{Shape, HasCode, IsTree, walk, AreChildNumbers}
use Rattle.gm_split.specs.Windows.{meets}
use Rattle.gm_split.specs.Levels.{IsStem}
use Rattle.gm_split.proofs.Parts.{child_inside, meets_parent, code_up, own_code}

module _ (D : ℕ) (s : Shape) (ws : List Window) (Comes : Node → Type 0)
    (tree : IsTree D s Comes) where
  -- the codes of a node further down are the node's, and what its reach meets the node's does
  pub codes_up : (n : Node) (path : List ℕ) (c : ℕ) → Comes n → n.level + length path ≤ s.depth
      → AreChildNumbers D path → HasCode s (walk s n path) c → HasCode s n c
  codes_up n [] c comes deep members has = has
  codes_up n (q ∷ qs) c comes deep members has =
      let level : n.level < s.depth = omega arith in
      code_up D s Comes tree n q c comes level members.0
      (codes_up (s.child n q) qs c (tree.child_comes n q comes level members.0)
      (omega (arith, tree.child_level n q comes level members.0)) members.1 has)

  pub meets_up : (n : Node) (path : List ℕ) → Comes n → n.level + length path ≤ s.depth
      → AreChildNumbers D path → meets D ws (s.reach (walk s n path)) ≡ true
      → meets D ws (s.reach n) ≡ true
  meets_up n [] comes deep members meet = meet
  meets_up n (q ∷ qs) comes deep members meet =
      let level : n.level < s.depth = omega arith in
      meets_parent D (s.reach (s.child n q)) (s.reach n) ws
      (child_inside D s Comes tree n q comes level members.0)
      (meets_up (s.child n q) qs (tree.child_comes n q comes level members.0)
      (omega (arith, tree.child_level n q comes level members.0)) members.1 meet)

  pub comes_down : (n : Node) (path : List ℕ) → Comes n → n.level + length path ≤ s.depth
      → AreChildNumbers D path
      → Comes (walk s n path) × ((walk s n path).level ≡ n.level + length path)
  comes_down n [] comes deep members = (comes, omega arith)
  comes_down n (q ∷ qs) comes deep members =
      let level : n.level < s.depth = omega arith in
      let at = tree.child_level n q comes level members.0 in
      let down = comes_down (s.child n q) qs (tree.child_comes n q comes level members.0)
      (omega (arith, at)) members.1 in
      (down.0, omega (arith, at, down.1))

  -- a node's own code is one of its codes
  pub own_has : (n : Node) (c : ℕ) → Comes n → n.level ≤ s.depth → s.own n ≡ Some c → HasCode s n c
  own_has n c comes deep own =
      let first : c ≡ n.first =
      ⊎_elim (λ level. own_code (s.own n) n.first c (tree.inner n comes level).own_first own)
      (λ past. own_code (s.own n) n.first c (tree.leaf_own n comes (omega arith)) own)
      (cases_lt n.level s.depth) in
      (omega (arith, first), omega (arith, first, tree.some_code n comes))

  -- the path cut at a level leads to the stem of each code of its node
  pub cut_covers : (l : ℕ) (n : Node) (path : List ℕ) (c : ℕ) → Comes n
      → n.level + length path ≤ s.depth → AreChildNumbers D path
      → (HasCode s (walk s n path) c × (l ≤ length path)) ⊎ (s.own (walk s n path) ≡ Some c)
      → meets D ws (s.reach (walk s n path)) ≡ true
      → (cut : List ℕ) × IsStem D s n l c cut × (meets D ws (s.reach (walk s n cut)) ≡ true)
  cut_covers zero n path c comes deep members has meet =
      let down = comes_down n path comes deep members in
      let code : HasCode s (walk s n path) c =
      ⊎_elim (λ h. h.0)
      (λ own. own_has (walk s n path) c down.0 (omega (arith, down.1)) own) has in (
        [],
        record { members = tt; stands = inl (refl, codes_up n path c comes deep members code) },
        meets_up n path comes deep members meet,
      )
  cut_covers (suc l) n [] c comes deep members has meet = (
    [],
    record {
      members = tt;
      stands = inr ((omega arith), ⊎_elim (λ h. absurd (omega (arith, h.1))) (λ own. own) has);
    },
    meet,
  )
  cut_covers (suc l) n (q ∷ qs) c comes deep members has meet =
      let level : n.level < s.depth = omega arith in
      let at = tree.child_level n q comes level members.0 in
      let cut = cut_covers l (s.child n q) qs c (tree.child_comes n q comes level members.0)
      (omega (arith, at)) members.1
      (⊎_elim (λ h. inl (h.0, omega (arith, h.1))) (λ own. inr own) has) meet in (
        q ∷ cut.0,
        record {
          members = (members.0, cut.1.members);
          stands = ⊎_elim (λ h. inl ((omega (arith, h.0)), h.1))
              (λ h. inr ((omega (arith, h.0)), h.1)) cut.1.stands;
        },
        cut.2,
      )
