-- The laws of the tree of the XZ code.
use Rattle.std.specs.Prelude.{◌≡◌, ◌<◌, ◌≤◌, ℕ, zero, suc, ◌+◌, ◌-◌, ◌*◌, ◌/◌, ◌%◌, ◌^◌, []}
use Rattle.std.proofs.Common.{ap, subst, ◌∙◌, sym, refl, arith}
use Rattle.std.proofs.Math.Nat.{mul-le-mul_left, mul-le-mul_right, mul-div_cancel, pow-le-pow_right}
use Rattle.std.proofs.lemmas.Nat.{pow-add}
use Rattle.std.proofs.lemmas.Grind.{common_steps}
use Rattle.gm_trees.specs.declared.node.Node.{Node}
use Rattle.gm_trees.specs.Tree.{IsTree, AreParts}
use Rattle.gm_curve.specs.Listing.{sequence_count}
use Rattle.gm_trees.specs.Xz.{IsXzSize, ComesXz, xz_shape, xz_child, xz_end}
use Rattle.gm_trees.specs.ZLaws.{side_split, level_up, some_width, part_within, small_child}
use Rattle.gm_trees.specs.ZLaws.{within_low, path_step}

pub size_split : (D G l : ℕ) → l < G
    → sequence_count D (G - l) ≡ 1 + 2 ^ D * sequence_count D (G - (l + 1))
size_split D G l h = let e : G - l ≡ suc (G - (l + 1)) = omega arith in ap (sequence_count D) e

pub some_size : (D k : ℕ) → 1 ≤ sequence_count D k
some_size D zero = omega arith
some_size D (suc k) = omega arith

pub xz_child_comes : (D G : ℕ) (n : Node) (q : ℕ) → ComesXz D G n → n.level < G → q < 2 ^ D
    → ComesXz D G (xz_child D G n q)
xz_child_comes D G n q comes level few = record {
  size = comes.size;
  by_path = path_step D (xz_shape D G) n q (omega arith) few comes.by_path;
  level = omega arith;
  first = let a = size_split D G n.level level in let b =
      part_within q (2 ^ D) (sequence_count D (G - (n.level + 1))) few in
      omega (arith, a, b, comes.first);
  x = omega (arith, level_up n.level, comes.x);
  y = omega (arith, level_up n.level, comes.y);
  t = omega (arith, level_up n.level, comes.t, small_child D q comes.size.dimensions few);
  flat = λ two. let less : q < 2 ^ 2 = subst (λ m. q < 2 ^ m) two few in
      omega (arith, comes.flat two, less);
}

-- the enlarged cell of a child ends within that of its parent
within_end : (a whole side half r : ℕ) → side ≡ 2 * half → r ≤ 1 → 1 ≤ half
    → xz_end whole half (2 * a + r) ≤ xz_end whole side a
within_end a whole side half r e small some =
    let m : r * half ≤ 1 * half = mul-le-mul_right half small in
    let left : (2 * a + r + 2) * half ≡ 2 * (a * half) + r * half + 2 * half = grind arith in
    let right : (a + 2) * side ≡ 2 * (a * half) + 4 * half =
    ap (λ k. (a + 2) * k) e ∙ grind arith in
    omega (arith, left, right, m, e)

cell_before_end : (a whole side level : ℕ) → a < level → level * side ≡ whole → 1 ≤ side
    → a * side ≤ xz_end whole side a
cell_before_end a whole side level inside e some =
    let h = part_within a level side inside in
    let right : (a + 2) * side ≡ a * side + 2 * side = grind arith in
    omega (arith, h, e, right, some)

whole_side : (G l : ℕ) → l ≤ G → 2 ^ l * 2 ^ (G - l) ≡ 2 ^ G
whole_side G l h = let e : l + (G - l) ≡ G = omega arith in
    sym (pow-add 2 l (G - l)) ∙ ap (λ k. 2 ^ k) e

xz_parts : (D G : ℕ) (n : Node) → ComesXz D G n → n.level < G → AreParts D (xz_shape D G) n
xz_parts D G n comes level = record {
  own_first = refl;
  first_child = omega arith;
  next_child = λ q h. let s = some_size D (G - (n.level + 1)) in grind (arith, s);
  last_child = λ q e.
      let s = some_size D (G - (n.level + 1)) in
      let a = size_split D G n.level level in
      let b : (q + 1) * sequence_count D (G - (n.level + 1))
      ≡ 2 ^ D * sequence_count D (G - (n.level + 1)) =
      ap (λ m. m * sequence_count D (G - (n.level + 1))) e in
      grind (arith, s, a, b);
}

xz_leaf : (D G l : ℕ) → l ≡ G → sequence_count D (G - l) ≡ 1
xz_leaf D G l deep = let none : G - l ≡ 0 = omega arith in ap (sequence_count D) none

xz_root_first : (D G : ℕ) → 0 + sequence_count D (G - 0) ≤ sequence_count D G
xz_root_first D G =
    let whole : G - 0 ≡ G = omega arith in
    let same : sequence_count D (G - 0) ≡ sequence_count D G = ap (sequence_count D) whole in
    omega (arith, same)

xz_root_whole : (D G : ℕ) → sequence_count D (G - 0) ≡ sequence_count D G
xz_root_whole D G = let whole : G - 0 ≡ G = omega arith in ap (sequence_count D) whole

pub xz_laws : (D G : ℕ) → IsXzSize D G → IsTree D (xz_shape D G) (ComesXz D G)
xz_laws D G size = record {
  root_comes = record {
    size = size;
    by_path = ([], record { level = omega arith; members = tt; ends = refl });
    level = omega arith;
    first = xz_root_first D G;
    x = omega arith;
    y = omega arith;
    t = omega arith;
    flat = λ two. omega arith;
  };
  child_comes = xz_child_comes D G;
  by_path = λ n comes. comes.by_path;
  root_level = omega arith;
  child_level = λ n q comes level few. omega arith;
  within_depth = λ n comes. comes.level;
  root_has = λ n c comes
      has. (
        (omega arith),
        (let w = some_size D (G - n.level) in let v = xz_root_whole D G in
            omega (arith, w, v, comes.first, has.1)),
      );
  some_code = λ n comes. omega arith;
  inner = xz_parts D G;
  leaf = λ n comes deep. omega (arith, xz_leaf D G n.level deep);
  leaf_own = λ n comes deep. refl;
  rising = λ n comes.
      let e = whole_side G n.level comes.level in
      let some = some_width (G - n.level) in (
        cell_before_end n.x (2 ^ G) (2 ^ (G - n.level)) (2 ^ n.level) comes.x e some,
        cell_before_end n.y (2 ^ G) (2 ^ (G - n.level)) (2 ^ n.level) comes.y e some,
        λ three. cell_before_end n.t (2 ^ G) (2 ^ (G - n.level)) (2 ^ n.level)
            comes.t e some,
      );
  inside_low = λ n q comes level few.
      let e = side_split G n.level level in (
        within_low n.x _ _ (q % 2) e,
        within_low n.y _ _ (q / 2 % 2) e,
        λ three. within_low n.t _ _ (q / 4) e,
      );
  inside_high = λ n q comes level few.
      let e = side_split G n.level level in
      let some = some_width (G - (n.level + 1)) in (
        within_end n.x (2 ^ G) _ _ (q % 2) e (omega arith) some,
        within_end n.y (2 ^ G) _ _ (q / 2 % 2) e (omega arith) some,
        λ three. within_end n.t (2 ^ G) _ _ (q / 4) e
            (small_child D q comes.size.dimensions few) some,
      );
}

-- ---- what fits
pub size_below : (D k : ℕ) → 1 ≤ D → sequence_count D k + 1 ≤ 2 ^ (D * (k + 1))
size_below D zero some =
    let e : D * (0 + 1) ≡ D = omega arith in
    let h : 2 ^ 1 ≤ 2 ^ D = pow-le-pow_right (omega arith) some in
    let f : 2 ^ (D * (0 + 1)) ≡ 2 ^ D = ap (λ n. 2 ^ n) e in
    omega (arith, f, h)
size_below D (suc k) some =
    let ih = size_below D k some in
    let e : D * (suc k + 1) ≡ D + D * (k + 1) = grind (arith, common_steps) in
    let f : 2 ^ (D * (suc k + 1)) ≡ 2 ^ D * 2 ^ (D * (k + 1)) =
    ap (λ n. 2 ^ n) e ∙ pow-add 2 D (D * (k + 1)) in
    let m : 2 ^ D * (sequence_count D k + 1) ≤ 2 ^ D * 2 ^ (D * (k + 1)) =
    mul-le-mul_left (2 ^ D) ih in
    let h : 2 ^ 1 ≤ 2 ^ D = pow-le-pow_right (omega arith) some in
    let x : 2 ^ D * (sequence_count D k + 1) ≡ 2 ^ D * sequence_count D k + 2 ^ D = grind arith in
    omega (arith, f, m, h, x)

pub size_fits : (D k : ℕ) → 1 ≤ D → D ≤ 3 → k ≤ 16 → sequence_count D k < 2 ^ 51
size_fits D k some few low =
    let a : D * (k + 1) ≤ 3 * (k + 1) = mul-le-mul_right (k + 1) few in
    let b : D * (k + 1) ≤ 51 = omega (arith, a) in
    let h : 2 ^ (D * (k + 1)) ≤ 2 ^ 51 = pow-le-pow_right (omega arith) b in
    omega (arith, size_below D k some, h)

-- the number of sequences as a geometric sum
geometric : (D k m : ℕ) → 2 ^ D ≡ m + 1 → sequence_count D k * m + 1 ≡ 2 ^ (D * (k + 1))
geometric D zero m at =
    let e : D * (0 + 1) ≡ D = omega arith in
    let f : 2 ^ (D * (0 + 1)) ≡ 2 ^ D = ap (λ n. 2 ^ n) e in
    omega (arith, at, f)
geometric D (suc k) m at =
    let ih = geometric D k m at in
    let e : D * (suc k + 1) ≡ D + D * (k + 1) = grind (arith, common_steps) in
    let f : 2 ^ (D * (suc k + 1)) ≡ 2 ^ D * 2 ^ (D * (k + 1)) =
    ap (λ n. 2 ^ n) e ∙ pow-add 2 D (D * (k + 1)) in
    let n = sequence_count D k in
    let g : 2 ^ D * 2 ^ (D * (k + 1)) ≡ (m + 1) * (n * m + 1) =
    ap (λ w. w * 2 ^ (D * (k + 1))) at ∙ ap (λ w. (m + 1) * w) (sym ih) in
    let h : (1 + 2 ^ D * n) * m + 1 ≡ (1 + (m + 1) * n) * m + 1 =
    ap (λ w. (1 + w * n) * m + 1) at in
    let x : (1 + (m + 1) * n) * m + 1 ≡ (m + 1) * (n * m + 1) = grind arith in
    h ∙ x ∙ sym (f ∙ g)

pub size_whole : (D k : ℕ) → 1 ≤ D → D ≤ 3 → k ≤ 16
    → (1 * 2 ^ (D * (k + 1)) % 2 ^ 64 - 1) / (1 * 2 ^ D % 2 ^ 64 - 1) ≡ sequence_count D k
size_whole D k some few low =
    let least : 2 ^ 1 ≤ 2 ^ D = pow-le-pow_right (omega arith) some in
    let most : 2 ^ D ≤ 2 ^ 3 = pow-le-pow_right (omega arith) few in
    let a : D * (k + 1) ≤ 3 * (k + 1) = mul-le-mul_right (k + 1) few in
    let b : D * (k + 1) ≤ 51 = omega (arith, a) in
    let h : 2 ^ (D * (k + 1)) ≤ 2 ^ 51 = pow-le-pow_right (omega arith) b in
    let m = 2 ^ D - 1 in
    let at : 2 ^ D ≡ m + 1 = omega (arith, least) in
    let sum : 1 * 2 ^ (D * (k + 1)) % 2 ^ 64 - 1 ≡ sequence_count D k * m =
    omega (arith, h, geometric D k m at) in
    let each : 1 * 2 ^ D % 2 ^ 64 - 1 ≡ m = omega (arith, most) in
    ap (λ n. n / (1 * 2 ^ D % 2 ^ 64 - 1)) sum ∙ ap (λ n. sequence_count D k * m / n) each
    ∙ mul-div_cancel (sequence_count D k) (omega (arith, least))

pub more_children : (D : ℕ) → 1 ≤ D → D ≤ 3 → 0 < 1 * 2 ^ D % 2 ^ 64 - 1
more_children D some few =
    let least : 2 ^ 1 ≤ 2 ^ D = pow-le-pow_right (omega arith) some in
    let most : 2 ^ D ≤ 2 ^ 3 = pow-le-pow_right (omega arith) few in
    omega (arith, least, most)

pub xz_child_fits : (D G f l q : ℕ) → 1 ≤ D → D ≤ 3 → G ≤ 16 → l < G → q < 2 ^ D
    → f + sequence_count D (G - l) ≤ sequence_count D G
    → f + 1 + q * sequence_count D (G - (l + 1)) < 2 ^ 51
xz_child_fits D G f l q some few low level inside first =
    omega (
      arith,
      size_fits D G some few low,
      size_split D G l level,
      part_within q (2 ^ D) (sequence_count D (G - (l + 1))) inside,
      some_size D (G - (l + 1)),
      first,
    )
