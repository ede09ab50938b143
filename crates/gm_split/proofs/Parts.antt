-- What a tree's laws give of level sets and partial nodes.
use Rattle.std.proofs.Common.{◌≡◌, ◌⊎◌, inl, inr, ⊎_elim, ℕ, zero, suc, ◌+◌, ◌-◌, ◌^◌, ◌<◌, ◌≤◌}
use Rattle.std.proofs.Common.{List, [], ◌∷◌, ap, arith}
use Rattle.std.specs.Prelude.{true, Option, Some, None}
use Rattle.std.proofs.lemmas.Bool.{cases_lt, or_cases, or_left, or_right}
use Rattle.std.proofs.lemmas.Bool.Decides.{nat_tests}
use Rattle.std.proofs.Math.Nat.{pow-le-pow_right}
use Rattle.gm_trees.specs.declared.node.Node.{Node}
use Rattle.gm_trees.specs.declared.window.Node3.{Node3}
use Rattle.gm_trees.specs.declared.window.Window.{Window}
use Rattle.gm_trees.specs.Tree.{Shape, HasCode, IsTree, IsNotPast, IsOwnFirst, own_size}
use Rattle.gm_split.specs.Windows.{overlaps, is_within, meets, is_inside}

-- ---- windows
-- the reach of the child is inside that of the parent
pub record Inside (D : ℕ) (child parent : Node3 × Node3) : Type 0 where
  pub low : IsNotPast D parent.0 child.0
  pub high : IsNotPast D child.1 parent.1

pub overlaps_parent : (D : ℕ) (child parent : Node3 × Node3) (w : Window) → Inside D child parent
    → overlaps D child w ≡ true → overlaps D parent w ≡ true
overlaps_parent D child parent w inside h = grind (arith, nat_tests)

within_child : (D : ℕ) (child parent : Node3 × Node3) (w : Window) → Inside D child parent
    → is_within D parent w ≡ true → is_within D child w ≡ true
within_child D child parent w inside h = grind (arith, nat_tests)

pub within_overlaps : (D : ℕ) (r : Node3 × Node3) (w : Window) → IsNotPast D r.0 r.1
    → is_within D r w ≡ true → overlaps D r w ≡ true
within_overlaps D r w rising h = grind (arith, nat_tests)

pub meets_parent : (D : ℕ) (child parent : Node3 × Node3) (ws : List Window) → Inside D child parent
    → meets D ws child ≡ true → meets D ws parent ≡ true
meets_parent D child parent [] inside h = h
meets_parent D child parent (w ∷ ws) inside h =
    ⊎_elim (λ here. or_left (overlaps D parent w) (meets D ws parent)
    (overlaps_parent D child parent w inside here))
    (λ there. or_right (overlaps D parent w) (meets D ws parent)
    (meets_parent D child parent ws inside there))
    (or_cases (overlaps D child w) (meets D ws child) h)

pub inside_child : (D : ℕ) (child parent : Node3 × Node3) (ws : List Window) → Inside D child parent
    → is_inside D ws parent ≡ true → is_inside D ws child ≡ true
inside_child D child parent [] inside h = h
inside_child D child parent (w ∷ ws) inside h =
    ⊎_elim (λ here. or_left (is_within D child w) (is_inside D ws child)
    (within_child D child parent w inside here))
    (λ there. or_right (is_within D child w) (is_inside D ws child)
    (inside_child D child parent ws inside there))
    (or_cases (is_within D parent w) (is_inside D ws parent) h)

pub inside_meets : (D : ℕ) (r : Node3 × Node3) (ws : List Window) → IsNotPast D r.0 r.1
    → is_inside D ws r ≡ true → meets D ws r ≡ true
inside_meets D r [] rising h = h
inside_meets D r (w ∷ ws) rising h =
    ⊎_elim (λ here. or_left (overlaps D r w) (meets D ws r) (within_overlaps D r w rising here))
    (λ there. or_right (overlaps D r w) (meets D ws r) (inside_meets D r ws rising there))
    (or_cases (is_within D r w) (is_inside D ws r) h)

-- ---- the codes of a node are its own and those of its children
-- its own code
pub own_code : (o : Option ℕ) (first c : ℕ) → IsOwnFirst o first → o ≡ Some c → c ≡ first
own_code None first c own h = absurd cc
own_code (Some d) first c own h = let e : d ≡ c = cc in omega (arith, e, own)

some_own : (o : Option ℕ) (first c : ℕ) → IsOwnFirst o first → first ≤ c
    → c < first + own_size o → o ≡ Some c
some_own None first c own from to = absurd (omega arith)
some_own (Some d) first c own from to = ap (λ n. Some n) (omega (arith, own))

pub some_children : (D : ℕ) → 1 ≤ 2 ^ D
some_children D =
    let z : 0 ≤ D = omega arith in
    let h : 2 ^ 0 ≤ 2 ^ D = pow-le-pow_right (omega arith) z in
    omega (arith, h)

module _ (D : ℕ) (s : Shape) (Comes : Node → Type 0) (tree : IsTree D s Comes) where
  pub child_inside : (n : Node) (q : ℕ) → Comes n → n.level < s.depth → q < 2 ^ D
      → Inside D (s.reach (s.child n q)) (s.reach n)
  child_inside n q comes level few =
      record {
        low = tree.inside_low n q comes level few;
        high = tree.inside_high n q comes level few;
      }

  pub child_some : (n : Node) (q : ℕ) → Comes n → n.level < s.depth → q < 2 ^ D
      → (s.child n q).first ≤ s.last (s.child n q)
  child_some n q comes level few =
      tree.some_code (s.child n q) (tree.child_comes n q comes level few)

  pub child_from : (n : Node) (q : ℕ) → Comes n → n.level < s.depth → q < 2 ^ D
      → n.first + own_size (s.own n) ≤ (s.child n q).first
  child_from n zero comes level few = omega (arith, (tree.inner n comes level).first_child)
  child_from n (suc q) comes level few =
      let few_less : q < 2 ^ D = omega arith in
      let next = (tree.inner n comes level).next_child q (omega arith) in
      let e : q + 1 ≡ suc q = omega arith in
      let at = ap (λ k. (s.child n k).first) e in
      omega (
        arith,
        next,
        at,
        child_some n q comes level few_less,
        child_from n q comes level few_less,
      )

  child_to : (j : ℕ) (n : Node) (q : ℕ) → Comes n → n.level < s.depth → q + j + 1 ≡ 2 ^ D
      → s.last (s.child n q) ≤ s.last n
  child_to zero n q comes level at =
      omega (arith, (tree.inner n comes level).last_child q (omega arith))
  child_to (suc j) n q comes level at =
      let few : q + 1 < 2 ^ D = omega arith in
      omega (
        arith,
        (tree.inner n comes level).next_child q few,
        child_some n (q + 1) comes level few,
        child_to j n (q + 1) comes level (omega arith),
      )

  -- a code of a child is one of the parent's
  pub code_up : (n : Node) (q c : ℕ) → Comes n → n.level < s.depth → q < 2 ^ D
      → HasCode s (s.child n q) c → HasCode s n c
  code_up n q c comes level few has =
      let to = child_to (2 ^ D - 1 - q) n q comes level (omega arith) in
      let from = child_from n q comes level few in
      (omega (arith, from, has.0), omega (arith, to, has.1))

  -- a code up to the last of a child is in this child or an earlier one
  find_child : (n : Node) (q c : ℕ) → Comes n → n.level < s.depth → q < 2 ^ D
      → n.first + own_size (s.own n) ≤ c → c ≤ s.last (s.child n q)
      → (k : ℕ) × (k < 2 ^ D) × HasCode s (s.child n k) c
  find_child n zero c comes level few from to =
      (0, few, (omega (arith, from, (tree.inner n comes level).first_child), to))
  find_child n (suc q) c comes level few from to =
      let few_less : q < 2 ^ D = omega arith in
      let next = (tree.inner n comes level).next_child q (omega arith) in
      let e : q + 1 ≡ suc q = omega arith in
      let at = ap (λ k. (s.child n k).first) e in
      ⊎_elim (λ earlier. find_child n q c comes level few_less from
      (omega (arith, next, at, earlier)))
      (λ here. (suc q, few, (here, to))) (cases_lt c (s.child n (suc q)).first)

  pub code_down : (n : Node) (c : ℕ) → Comes n → n.level < s.depth → HasCode s n c
      → (s.own n ≡ Some c) ⊎ ((q : ℕ) × (q < 2 ^ D) × HasCode s (s.child n q) c)
  code_down n c comes level has =
      let parts = tree.inner n comes level in
      ⊎_elim (λ own. inl (some_own (s.own n) n.first c parts.own_first has.0 own))
      (λ later.
      let some = some_children D in
      let last = parts.last_child (2 ^ D - 1) (omega (arith, some)) in
      inr (find_child n (2 ^ D - 1) c comes level (omega (arith, some)) later
      (omega (arith, last, has.1))))
      (cases_lt c (n.first + own_size (s.own n)))
