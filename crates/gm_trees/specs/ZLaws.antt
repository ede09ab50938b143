-- The laws of the tree of the Z code.
use Rattle.std.specs.Prelude.{◌≡◌, ◌<◌, ◌≤◌, ◌⊎◌, ℕ, ◌+◌, ◌-◌, ◌*◌, ◌/◌, ◌%◌, ◌^◌, List, [], ◌∷◌}
use Rattle.std.specs.Prelude.{◌++◌}
use Rattle.std.specs.List.{AllByRecursion}
use Rattle.std.proofs.Common.{⊎_elim, refl, ap, ◌∙◌, sym, subst, arith}
use Rattle.std.proofs.Math.Nat.{mul-le-mul_right, pow-le-pow_right}
use Rattle.std.proofs.lemmas.Nat.{pow-add}
use Rattle.std.proofs.lemmas.List.{length-append}
use Rattle.std.proofs.lemmas.Grind.{common_steps}
use Rattle.gm_trees.specs.declared.node.Node.{Node}
use Rattle.gm_trees.specs.Tree.{Shape, IsTree, AreParts, LeadsTo, walk}
use Rattle.gm_trees.specs.Z.{IsZSize, ComesZ, z_shape, z_child}

-- ---- one step more on a path
walk_step : (s : Shape) (n : Node) (path : List ℕ) (q : ℕ)
    → walk s n (path ++ q ∷ []) ≡ s.child (walk s n path) q
walk_step s n [] q = refl
walk_step s n (p ∷ path) q = walk_step s (s.child n p) path q

members_step : (D : ℕ) (path : List ℕ) (q : ℕ) → AllByRecursion (λ k. k < 2 ^ D) path → q < 2 ^ D
    → AllByRecursion (λ k. k < 2 ^ D) (path ++ q ∷ [])
members_step D [] q members few = (few, tt)
members_step D (p ∷ path) q members few = (members.0, members_step D path q members.1 few)

pub path_step : (D : ℕ) (s : Shape) (n : Node) (q : ℕ) → (s.child n q).level ≡ n.level + 1
    → q < 2 ^ D → (path : List ℕ) × LeadsTo D s n path
    → (path : List ℕ) × LeadsTo D s (s.child n q) path
path_step D s n q level few by = (
  by.0 ++ q ∷ [],
  record {
    level = omega (arith, length-append by.0 (q ∷ []), by.1.level, level);
    members = members_step D by.0 q by.1.members few;
    ends = walk_step s s.root by.0 q ∙ ap (λ m. s.child m q) by.1.ends;
  },
)

-- a node's width is that of all its children
pub width_split : (D B l : ℕ) → l < B → 2 ^ (D * (B - l)) ≡ 2 ^ D * 2 ^ (D * (B - (l + 1)))
width_split D B l h =
    let e : B - l ≡ 1 + (B - (l + 1)) = omega arith in
    let m : D * (B - l) ≡ D + D * (B - (l + 1)) = ap (λ k. D * k) e ∙ grind (arith, common_steps) in
    ap (λ k. 2 ^ k) m ∙ pow-add 2 D (D * (B - (l + 1)))

pub side_split : (B l : ℕ) → l < B → 2 ^ (B - l) ≡ 2 * 2 ^ (B - (l + 1))
side_split B l h =
    let e : B - l ≡ 1 + (B - (l + 1)) = omega arith in
    ap (λ k. 2 ^ k) e ∙ pow-add 2 1 (B - (l + 1))

pub level_up : (l : ℕ) → 2 ^ (l + 1) ≡ 2 * 2 ^ l
level_up l = grind (arith, common_steps, pow-add 2 l 1)

pub some_width : (k : ℕ) → 1 ≤ 2 ^ k
some_width k =
    let z : 0 ≤ k = omega arith in
    let h : 2 ^ 0 ≤ 2 ^ k = pow-le-pow_right (omega arith) z in
    omega (arith, h)

-- the q-th of n parts of this width ends within them
pub part_within : (q n w : ℕ) → q < n → q * w + w ≤ n * w
part_within q n w h = grind (arith, mul-le-mul_right w h)

pub small_child : (D q : ℕ) → (D ≡ 2) ⊎ (D ≡ 3) → q < 2 ^ D → q / 4 ≤ 1
small_child D q d h =
    ⊎_elim (λ e. let k : q < 2 ^ 2 = subst (λ m. q < 2 ^ m) e h in omega arith)
    (λ e. let k : q < 2 ^ 3 = subst (λ m. q < 2 ^ m) e h in omega arith) d

pub z_child_comes : (D B : ℕ) (n : Node) (q : ℕ) → ComesZ D B n → n.level < B → q < 2 ^ D
    → ComesZ D B (z_child D B n q)
z_child_comes D B n q comes level few = record {
  size = comes.size;
  by_path = path_step D (z_shape D B) n q (omega arith) few comes.by_path;
  level = omega arith;
  first = let a = width_split D B n.level level in let b =
      part_within q (2 ^ D) (2 ^ (D * (B - (n.level + 1)))) few in omega (arith, a, b, comes.first);
  x = omega (arith, level_up n.level, comes.x);
  y = omega (arith, level_up n.level, comes.y);
  t = omega (arith, level_up n.level, comes.t, small_child D q comes.size.dimensions few);
  flat = λ two. let less : q < 2 ^ 2 = subst (λ m. q < 2 ^ m) two few in
      omega (arith, comes.flat two, less);
}

pub within_low : (a side half r : ℕ) → side ≡ 2 * half → a * side ≤ (2 * a + r) * half
within_low a side half r e = grind (arith, e)

within_high : (a side half r : ℕ) → side ≡ 2 * half → r ≤ 1 → 1 ≤ half
    → (2 * a + r) * half + (half - 1) ≤ a * side + (side - 1)
within_high a side half r e small some =
    let m : r * half ≤ 1 * half = mul-le-mul_right half small in
    let left : (2 * a + r) * half ≡ 2 * (a * half) + r * half = grind arith in
    let right : a * side ≡ 2 * (a * half) = ap (λ k. a * k) e ∙ grind arith in
    omega (arith, left, right, m, e)

z_parts : (D B : ℕ) (n : Node) → ComesZ D B n → n.level < B → AreParts D (z_shape D B) n
z_parts D B n comes level = record {
  own_first = tt;
  first_child = omega arith;
  next_child = λ q h. let w = 2 ^ (D * (B - (n.level + 1))) in let s =
      some_width (D * (B - (n.level + 1))) in grind (arith, s);
  last_child = λ q e.
      let s = some_width (D * (B - (n.level + 1))) in
      let a = width_split D B n.level level in
      let b : (q + 1) * 2 ^ (D * (B - (n.level + 1))) ≡ 2 ^ (D * (B - n.level)) =
      ap (λ m. m * 2 ^ (D * (B - (n.level + 1)))) e ∙ sym a in
      grind (arith, s, b);
}

z_root_first : (D B : ℕ) → 0 + 2 ^ (D * (B - 0)) ≤ 2 ^ (D * B)
z_root_first D B =
    let whole : B - 0 ≡ B = omega arith in
    let same : 2 ^ (D * (B - 0)) ≡ 2 ^ (D * B) = ap (λ k. 2 ^ (D * k)) whole in
    omega (arith, same)

z_root_whole : (D B : ℕ) → 2 ^ (D * (B - 0)) ≡ 2 ^ (D * B)
z_root_whole D B = let whole : B - 0 ≡ B = omega arith in ap (λ k. 2 ^ (D * k)) whole

z_leaf : (D B l : ℕ) → l ≡ B → 2 ^ (D * (B - l)) ≡ 1
z_leaf D B l deep =
    let none : B - l ≡ 0 = omega arith in
    ap (λ k. 2 ^ (D * k)) none ∙ grind (arith, common_steps)

pub z_laws : (D B : ℕ) → IsZSize D B → IsTree D (z_shape D B) (ComesZ D B)
z_laws D B size = record {
  root_comes = record {
    size = size;
    by_path = ([], record { level = omega arith; members = tt; ends = refl });
    level = omega arith;
    first = z_root_first D B;
    x = omega arith;
    y = omega arith;
    t = omega arith;
    flat = λ two. omega arith;
  };
  child_comes = z_child_comes D B;
  by_path = λ n comes. comes.by_path;
  root_level = omega arith;
  child_level = λ n q comes level few. omega arith;
  within_depth = λ n comes. comes.level;
  root_has = λ n c comes
      has. (
        (omega arith),
        (let r = z_root_first D B in let w = some_width (D * (B - n.level)) in let v =
            z_root_whole D B in omega (arith, r, w, v, comes.first, has.1)),
      );
  some_code = λ n comes. omega arith;
  inner = z_parts D B;
  leaf = λ n comes deep.
      omega (arith, z_leaf D B n.level deep);
  leaf_own = λ n comes deep. tt;
  rising = λ n comes. ((omega arith), (omega arith), λ three. omega arith);
  inside_low = λ n q comes level few.
      let e = side_split B n.level level in (
        within_low n.x _ _ (q % 2) e,
        within_low n.y _ _ (q / 2 % 2) e,
        λ three. within_low n.t _ _ (q / 4) e,
      );
  inside_high = λ n q comes level few.
      let e = side_split B n.level level in
      let some = some_width (B - (n.level + 1)) in (
        within_high n.x _ _ (q % 2) e (omega arith) some,
        within_high n.y _ _ (q / 2 % 2) e (omega arith) some,
        λ three. within_high n.t _ _ (q / 4) e
            (small_child D q comes.size.dimensions few) some,
      );
}

-- ---- what fits
pub low_side : (k : ℕ) → k ≤ 31 → 1 * 2 ^ k % 4294967296 ≡ 2 ^ k
low_side k few =
    let h : 2 ^ k ≤ 2 ^ 31 = pow-le-pow_right (omega arith) few in
    omega (arith, h)

pub cell_fits : (i l k : ℕ) → i < 2 ^ l → l + k ≤ 31 → i * 2 ^ k + 2 ^ k ≤ 2 ^ 31
cell_fits i l k inside few =
    let h : 2 ^ (l + k) ≤ 2 ^ 31 = pow-le-pow_right (omega arith) few in
    omega (arith, h, pow-add 2 l k, part_within i (2 ^ l) (2 ^ k) inside)

pub child_fits : (D B f l q : ℕ) → D * B ≤ 63 → l < B → q < 2 ^ D
    → f + 2 ^ (D * (B - l)) ≤ 2 ^ (D * B) → f + q * 2 ^ (D * (B - (l + 1))) < 2 ^ 63
child_fits D B f l q fits level few first =
    let h : 2 ^ (D * B) ≤ 2 ^ 63 = pow-le-pow_right (omega arith) fits in
    omega (
      arith,
      h,
      first,
      width_split D B l level,
      part_within q (2 ^ D) (2 ^ (D * (B - (l + 1)))) few,
      some_width (D * (B - (l + 1))),
    )
