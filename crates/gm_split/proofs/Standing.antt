-- What stands of a node, by the windows near it.
use Rattle.std.proofs.Common.{◌≡◌, ⊎_elim, ℕ, ◌-◌, ◌^◌, ◌<◌, ◌≤◌, List, length, sym, ap, ◌∙◌, subst}
use Rattle.std.proofs.Common.{arith}
use Rattle.std.specs.Prelude.{true, false, Some, None}
use Rattle.std.proofs.lemmas.Bool.{cases_Bool, cond-true, cond-false}
use Rattle.std.proofs.lemmas.Nat.Bits.{bit_at_ones}
use Rattle.gm_trees.specs.declared.node.Node.{Node}
use Rattle.gm_trees.specs.declared.window.Node3.{Node3}
use Rattle.gm_trees.specs.declared.window.Window.{Window}
use Rattle.gm_trees.specs.Tree.{Shape, IsTree}
use Rattle.gm_split.specs.declared.windows.Lie.TheVariants.{Inside, Near}
use Rattle.gm_split.specs.declared.pieces.Piece.TheVariants.{Codes, Partial}
use Rattle.gm_split.specs.Windows.{meets, is_inside}
use Rattle.gm_split.specs.Near.{near_of, HasNear, lie_of}
use Rattle.gm_split.specs.Opening.{piece_of}
use Rattle.gm_split.proofs.Near.{zero_or_more, near_inside, none_near, some_near, near_parent}
use Rattle.gm_split.proofs.Parts.{child_inside}

-- at the root each window may be near
pub all_seen : (D : ℕ) (ws : List Window) (r : Node3 × Node3) → length ws ≤ 64
    → HasNear D ws r (2 ^ 64 - 1)
all_seen D ws r few i one = bit_at_ones 64 i (let h = near_inside D r ws i one in omega (arith, h))

pub child_seen : (D : ℕ) (s : Shape) (ws : List Window) (Comes : Node → Type 0)
    (tree : IsTree D s Comes) (n child : Node) (q near : ℕ) → Comes n → n.level < s.depth
    → q < 2 ^ D → child ≡ s.child n q → near ≡ near_of D ws (s.reach n)
    → HasNear D ws (s.reach child) near
child_seen D s ws Comes tree n child q near comes level few at is =
    subst (λ m. HasNear D ws (s.reach m) near) (sym at)
    (subst (λ k. HasNear D ws (s.reach (s.child n q)) k) (sym is)
    (near_parent D (s.reach (s.child n q)) (s.reach n) ws
    (child_inside D s Comes tree n q comes level few)))

not_inside : (near : ℕ) (D : ℕ) (ws : List Window) (r : Node3 × Node3) → Near near ≡ lie_of D ws r
    → is_inside D ws r ≡ false
not_inside near D ws r e =
    ⊎_elim (λ t. absurd
    (let f : Near near ≡ Inside = e
    ∙ cond-true (is_inside D ws r) Inside (Near (near_of D ws r)) t in cc)) (λ f. f)
    (cases_Bool (is_inside D ws r))

is_near : (near : ℕ) (D : ℕ) (ws : List Window) (r : Node3 × Node3) → Near near ≡ lie_of D ws r
    → near ≡ near_of D ws r
is_near near D ws r e = let f : Near near ≡ Near (near_of D ws r) =
    e ∙ cond-false (is_inside D ws r) Inside (Near (near_of D ws r)) (not_inside near D ws r e) in
    cc

pub none_stands : (D : ℕ) (s : Shape) (ws : List Window) (n : Node) (near : ℕ)
    → Near near ≡ lie_of D ws (s.reach n) → near ≡ 0 → None ≡ piece_of D s ws n
none_stands D s ws n near e none =
    sym (cond-false (is_inside D ws (s.reach n)) _ _ (not_inside near D ws (s.reach n) e)
    ∙ cond-false (meets D ws (s.reach n)) _ _
    (none_near D (s.reach n) ws (sym (is_near near D ws (s.reach n) e) ∙ none)))

pub part_stands : (D : ℕ) (s : Shape) (ws : List Window) (n : Node) (near : ℕ)
    → Near near ≡ lie_of D ws (s.reach n) → (near ≡ 0 → ⊥)
    → Some (Partial n near) ≡ piece_of D s ws n
part_stands D s ws n near e some =
    let is = is_near near D ws (s.reach n) e in
    let more : 0 < near_of D ws (s.reach n) = omega (arith, zero_or_more near some, is) in
    ap (λ k. Some (Partial n k)) is
    ∙ sym (cond-false (is_inside D ws (s.reach n)) _ _ (not_inside near D ws (s.reach n) e)
    ∙ cond-true (meets D ws (s.reach n)) _ _ (some_near D (s.reach n) ws more))

pub inside_stands : (D : ℕ) (s : Shape) (ws : List Window) (n : Node)
    → Inside ≡ lie_of D ws (s.reach n) → Some (Codes n.first (s.last n)) ≡ piece_of D s ws n
inside_stands D s ws n e =
    let inside : is_inside D ws (s.reach n) ≡ true =
    ⊎_elim (λ t. t)
    (λ f. absurd (let g : Inside ≡ Near (near_of D ws (s.reach n)) = e
    ∙ cond-false (is_inside D ws (s.reach n)) Inside (Near (near_of D ws (s.reach n))) f in
    cc)) (cases_Bool (is_inside D ws (s.reach n))) in
    sym (cond-true (is_inside D ws (s.reach n)) _ _ inside)
