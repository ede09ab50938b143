-- The codes of the nodes of the Z tree by their paths.
use Rattle.std.proofs.Common.{◌≡◌, ℕ, zero, suc, ◌+◌, ◌-◌, ◌*◌, ◌/◌, ◌%◌, ◌^◌, ◌<◌, ◌≤◌, List, []}
use Rattle.std.proofs.Common.{◌∷◌, length, refl, sym, ap, ◌∙◌, arith}
use Rattle.std.proofs.Math.Nat.{mul-le-mul_right, mod-lt}
use Rattle.std.proofs.lemmas.Nat.{pow-add, div-mul-add, div-add-mod'}
use Rattle.std.proofs.lemmas.Grind.{common_steps}
use Rattle.gm_curve.specs.Curve.{bits_at, z_code}
use Rattle.gm_curve.specs.Xz.{sequence_of}
use Rattle.gm_trees.specs.declared.node.Node.{Node}
use Rattle.gm_trees.specs.Tree.{walk, HasCode, AreChildNumbers}
use Rattle.gm_trees.specs.Paths.{spelled}
use Rattle.gm_trees.specs.Z.{z_root, z_shape, z_child}
use Rattle.gm_trees.specs.ZLaws.{width_split, some_width}
use Rattle.gm_trees.proofs.Cells.{Halves, level_of_path}

pub z_halves : (D B : ℕ) (n : Node) (q : ℕ) → Halves n q (z_child D B n q)
z_halves D B n q = record { level = refl; x = refl; y = refl; t = refl }

-- the first code is what the path spells, followed by zeros
pub first_by_path : (D B : ℕ) (n : Node) (a : ℕ) (path : List ℕ) → n.level + length path ≤ B
    → n.first ≡ a * 2 ^ (D * (B - n.level))
    → (walk (z_shape D B) n path).first ≡ spelled D a path * 2 ^ (D * (B - (n.level + length path)))
first_by_path D B n a [] deep at = let e : n.level ≡ n.level + 0 = omega arith in
    at ∙ ap (λ l. a * 2 ^ (D * (B - l))) e
first_by_path D B n a (q ∷ qs) deep at =
    let split = width_split D B n.level (omega arith) in
    let w = 2 ^ (D * (B - (n.level + 1))) in
    let whole : a * 2 ^ (D * (B - n.level)) ≡ a * (2 ^ D * w) = ap (λ k. a * k) split in
    let more : n.first + q * w ≡ (a * 2 ^ D + q) * w = grind (arith, at, whole) in
    let e : n.level + 1 + length qs ≡ n.level + suc (length qs) = omega arith in
    first_by_path D B (z_child D B n q) (a * 2 ^ D + q) qs (omega arith) more
    ∙ ap (λ l. spelled D (a * 2 ^ D + q) qs * 2 ^ (D * (B - l))) e

pub first_from_root : (D B : ℕ) (path : List ℕ) → length path ≤ B
    → (walk (z_shape D B) z_root path).first ≡ spelled D 0 path * 2 ^ (D * (B - length path))
first_from_root D B path deep =
    let e : 0 + length path ≡ length path = omega arith in
    first_by_path D B z_root 0 path (omega (arith, deep)) (omega arith)
    ∙ ap (λ l. spelled D 0 path * 2 ^ (D * (B - l))) e

more_power : (D k : ℕ) → 2 ^ (D * suc k) ≡ 2 ^ D * 2 ^ (D * k)
more_power D k = let e : D * suc k ≡ D + D * k = grind (arith, common_steps) in
    ap (λ n. 2 ^ n) e ∙ pow-add 2 D (D * k)

no_power : (D : ℕ) → 2 ^ (D * 0) ≡ 1
no_power D = let e : D * 0 ≡ 0 = omega arith in ap (λ n. 2 ^ n) e

-- what a path spells has D bits for each member
spelled_below : (D a : ℕ) (path : List ℕ) → AreChildNumbers D path
    → spelled D a path < (a + 1) * 2 ^ (D * length path)
spelled_below D a [] members =
    let e : (a + 1) * 2 ^ (D * 0) ≡ (a + 1) * 1 = ap (λ n. (a + 1) * n) (no_power D) in
    omega (arith, e)
spelled_below D a (q ∷ qs) members =
    let w = 2 ^ (D * length qs) in
    let ih = spelled_below D (a * 2 ^ D + q) qs members.1 in
    let up : a * 2 ^ D + q + 1 ≤ (a + 1) * 2 ^ D = let few = members.0 in
    let x : (a + 1) * 2 ^ D ≡ a * 2 ^ D + 2 ^ D = grind arith in omega (arith, few, x) in
    let most : (a * 2 ^ D + q + 1) * w ≤ (a + 1) * 2 ^ D * w = mul-le-mul_right w up in
    let e : (a + 1) * 2 ^ (D * suc (length qs)) ≡ (a + 1) * 2 ^ D * w =
    ap (λ n. (a + 1) * n) (more_power D (length qs)) ∙ grind arith in
    omega (arith, ih, most, e)

-- ---- the codes between two multiples
divided : (s w c : ℕ) → 1 ≤ w → s * w ≤ c → c ≤ s * w + (w - 1) → c / w ≡ s
divided s w c some from to =
    let e : c ≡ s * w + (c - s * w) = omega (arith, from) in
    ap (λ k. k / w) e ∙ div-mul-add s w (c - s * w) (omega (arith, from, to, some))

multiplied : (s w c : ℕ) → 1 ≤ w → c / w ≡ s → (s * w ≤ c) × (c ≤ s * w + (w - 1))
multiplied s w c some e =
    let parts : s * w + c % w ≡ c = ap (λ k. k * w + c % w) (sym e) ∙ div-add-mod' c w in
    let less = mod-lt c {m = w} (omega (arith, some)) in
    ((omega (arith, parts)), omega (arith, parts, less))

module _ (D B : ℕ) (path : List ℕ) (c : ℕ) (deep : length path ≤ B)
    (members : AreChildNumbers D path) where
  width : ℕ
  width = 2 ^ (D * (B - length path))

  whole : 2 ^ (D * length path) * 2 ^ (D * (B - length path)) ≡ 2 ^ (D * B)
  whole =
      let e : length path + (B - length path) ≡ B = omega (arith, deep) in
      let m : D * length path + D * (B - length path) ≡ D * B =
      (let d : D * (length path + (B - length path)) ≡ D * length path + D * (B - length path) =
      grind arith in sym d) ∙ ap (λ k. D * k) e in
      sym (pow-add 2 (D * length path) (D * (B - length path))) ∙ ap (λ k. 2 ^ k) m

  last_width : 2 ^ (D * (B - (walk (z_shape D B) z_root path).level)) ≡ 2 ^ (D * (B - length path))
  last_width = let e : (walk (z_shape D B) z_root path).level ≡ length path =
      omega (arith, level_of_path (z_shape D B) (z_halves D B) z_root path) in
      ap (λ l. 2 ^ (D * (B - l))) e

  pub spelled_codes : HasCode (z_shape D B) (walk (z_shape D B) z_root path) c
      → (c < 2 ^ (D * B)) × (c / 2 ^ (D * (B - length path)) ≡ spelled D 0 path)
  spelled_codes has =
      let s = spelled D 0 path in
      let w = 2 ^ (D * (B - length path)) in
      let some : 1 ≤ w = some_width (D * (B - length path)) in
      let first : (walk (z_shape D B) z_root path).first ≡ s * w = first_from_root D B path deep in
      let to : c ≤ s * w + (w - 1) = omega (arith, has.1, first, last_width) in
      let below : s < (0 + 1) * 2 ^ (D * length path) = spelled_below D 0 path members in
      let less : s + 1 ≤ 2 ^ (D * length path) = omega (arith, below) in
      let most : (s + 1) * w ≤ 2 ^ (D * length path) * w = mul-le-mul_right w less in
      let x : (s + 1) * w ≡ s * w + w = grind arith in (
        (omega (arith, to, most, x, whole, some)),
        divided s w c some (omega (arith, has.0, first)) to,
      )

  pub codes_spelled : c / 2 ^ (D * (B - length path)) ≡ spelled D 0 path
      → HasCode (z_shape D B) (walk (z_shape D B) z_root path) c
  codes_spelled e =
      let s = spelled D 0 path in
      let w = 2 ^ (D * (B - length path)) in
      let first : (walk (z_shape D B) z_root path).first ≡ s * w = first_from_root D B path deep in
      let between = multiplied s w c (some_width (D * (B - length path))) e in
      ((omega (arith, first, between.0)), omega (arith, first, between.1, last_width))

-- ---- the sequence of a cell spells its code
pub cell_spelled : (D a g : ℕ) (at : List ℕ)
    → spelled D a (sequence_of g g at) ≡ a * 2 ^ (D * g) + z_code D g at
cell_spelled D a zero at = let e : a * 2 ^ (D * 0) ≡ a * 1 = ap (λ n. a * n) (no_power D) in
    omega (arith, e)
cell_spelled D a (suc g) at =
    let b = bits_at g at in
    let w = 2 ^ (D * g) in
    let e : a * 2 ^ (D * suc g) ≡ a * (2 ^ D * w) = ap (λ n. a * n) (more_power D g) in
    let x : (a * 2 ^ D + b) * w ≡ a * (2 ^ D * w) + b * w = grind arith in
    omega (arith, cell_spelled D (a * 2 ^ D + b) g at, e, x)
