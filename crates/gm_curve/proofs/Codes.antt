-- The closed form of the XZ code, a number of the sequence at a time.
use Rattle.std.proofs.Common.{◌≡◌, ◌⊎◌, ⊎_elim, ℕ, zero, suc, ◌+◌, ◌-◌, ◌*◌, ◌/◌, ◌%◌, ◌^◌, ◌<◌}
use Rattle.std.proofs.Common.{◌≤◌, List, ◌∷◌, length, get_or, refl, sym, ap, ◌∙◌, subst, arith}
use Rattle.std.specs.Prelude.{All, slice_index}
use Rattle.std.specs.Int.{bit_at}
use Rattle.std.proofs.lemmas.Grind.{common_steps}
use Rattle.std.proofs.lemmas.Nat.{pow_pos, pow-add, one_shl, div-mul-add, mul-le}
use Rattle.std.proofs.Math.Nat.{pow-le-pow_right, mul-le-mul_left}
use Rattle.gm_base.proofs.Numbers.{two_at_least}
use Rattle.gm_curve.specs.Curve.{bits_at}
use Rattle.gm_curve.specs.Listing.{sequence_count, IsSequence}
use Rattle.gm_curve.specs.Xz.{sequence_of}
use Rattle.gm_curve.proofs.Bits.{bits_at-lt, bit_at-bits_at}
use Rattle.gm_curve.proofs.Places.{place, place_within}

-- ---- how many sequences, as a geometric sum
product_of_sum : (P p c n : ℕ) → P ≡ p + 1 → c * p + 1 ≡ n → (1 + P * c) * p + 1 ≡ P * n
product_of_sum P p c n whole is =
    let more = ap (λ m. P * m) is in
    let width = ap (λ m. m * (c * p)) whole in
    let last = ap (λ m. m * (c * p + 1)) whole in
    grind (arith, whole, more)

geometric : (D g : ℕ) → sequence_count D g * (2 ^ D - 1) + 1 ≡ 2 ^ (D * (g + 1))
geometric D zero = let e : D * (0 + 1) ≡ D = omega arith in rw e (omega (arith, pow_pos D))
geometric D (suc g) =
    let e : D * (suc g + 1) ≡ D + D * (g + 1) = grind (arith, common_steps) in
    let whole : 2 ^ D ≡ 2 ^ D - 1 + 1 = omega (arith, pow_pos D) in
    product_of_sum (2 ^ D) (2 ^ D - 1) (sequence_count D g) (2 ^ (D * (g + 1))) whole
    (geometric D g) ∙ sym (ap (λ n. 2 ^ n) e ∙ pow-add 2 D (D * (g + 1)))

pub shifted_one : (D places : ℕ) → D ≤ 3 → places ≤ 16
    → 1 * 2 ^ (D * places) % 2 ^ 64 ≡ 2 ^ (D * places)
shifted_one D places few most = let fits : D * places ≤ 48 = mul-le D places 3 16 few most in
    one_shl (D * places) 64 (omega (arith, fits))

pub count_closed : (D places : ℕ) → 1 ≤ D → 1 ≤ places
    → (2 ^ (D * places) - 1) / (2 ^ D - 1) ≡ sequence_count D (places - 1)
count_closed D places some least =
    let whole : places - 1 + 1 ≡ places = omega arith in
    let sum : sequence_count D (places - 1) * (2 ^ D - 1) + 1 ≡ 2 ^ (D * places) =
    geometric D (places - 1) ∙ ap (λ n. 2 ^ (D * n)) whole in
    let product : 2 ^ (D * places) - 1 ≡ sequence_count D (places - 1) * (2 ^ D - 1) + 0 =
    omega (arith, sum) in
    ap (λ n. n / (2 ^ D - 1)) product
    ∙ div-mul-add (sequence_count D (places - 1)) (2 ^ D - 1) 0
    (omega (arith, two_at_least D some))

pub count_fits : (D g : ℕ) → 1 ≤ D → D ≤ 3 → g ≤ 16 → sequence_count D g < 2 ^ 63
count_fits D g some few most =
    let fits : D * (g + 1) ≤ 51 = mul-le D (g + 1) 3 17 few (omega arith) in
    let small : 2 ^ (D * (g + 1)) ≤ 2 ^ 51 = pow-le-pow_right (omega arith) fits in
    let wide : 1 ≤ 2 ^ D - 1 = omega (arith, two_at_least D some) in
    let product : sequence_count D g * 1 ≤ sequence_count D g * (2 ^ D - 1) =
    mul-le-mul_left (sequence_count D g) wide in
    omega (arith, small, product, geometric D g)

-- ---- the sequence of a cell
all_members : (limit q : ℕ) (path : List ℕ) → q < limit → All (λ x. x < limit) path → (k d : ℕ)
    → k < length (q ∷ path) → get_or (q ∷ path) k d < limit
all_members limit q path first rest zero d inside = first
all_members limit q path first rest (suc k) d inside = rest k d (omega arith)

pub is_sequence : (D g l : ℕ) (low : List ℕ) → length low ≡ D → IsSequence D g (sequence_of g l low)
is_sequence D zero l low size =
    record { short = omega arith; members = λ k d inside. absurd (omega arith) }
is_sequence D (suc g) zero low size =
    record { short = omega arith; members = λ k d inside. absurd (omega arith) }
is_sequence D (suc g) (suc l) low size =
    let rest = is_sequence D g l low size in
    record {
      short = let h = rest.short in omega (arith, h);
      members = all_members (2 ^ D) (bits_at g low) (sequence_of g l low)
          (subst (λ n. bits_at g low < 2 ^ n) size (bits_at-lt g low)) rest.members;
    }

pub length-sequence : (g l : ℕ) (low : List ℕ) → l ≤ g → length (sequence_of g l low) ≡ l
length-sequence zero l low few = omega (arith, few)
length-sequence (suc g) zero low few = omega arith
length-sequence (suc g) (suc l) low few = omega (arith, length-sequence g l low (omega arith))

pub bit_at-sequence : (g l i d : ℕ) (low : List ℕ) → i < l → l ≤ g → d < length low
    → bit_at (slice_index (sequence_of g l low) i) d ≡ bit_at (slice_index low d) (g - 1 - i)
bit_at-sequence zero l i d low less few inside = absurd (omega arith)
bit_at-sequence (suc g) zero i d low less few inside = absurd (omega arith)
bit_at-sequence (suc g) (suc l) zero d low less few inside =
    let highest : g ≡ suc g - 1 - 0 = omega arith in
    bit_at-bits_at g low d inside ∙ ap (bit_at (slice_index low d)) highest
bit_at-sequence (suc g) (suc l) (suc i) d low less few inside =
    let lower : g - 1 - i ≡ suc g - 1 - suc i = omega arith in
    bit_at-sequence g l i d low (omega arith) (omega arith) inside
    ∙ ap (bit_at (slice_index low d)) lower

-- ---- a number more
abbrev pub rest_of_place : ℕ → ℕ → ℕ → ℕ → List ℕ → ℕ
rest_of_place D G l i low = place D (G - i) (sequence_of (G - i) (l - i) low)

pub next_number : (D G l i : ℕ) (low : List ℕ) → i < l → l ≤ G
    → rest_of_place D G l i low
    ≡ bits_at (G - 1 - i) low * sequence_count D (G - i - 1) + 1 + rest_of_place D G l (i + 1) low
next_number D G l i low less most =
    let cells : G - i ≡ suc (G - i - 1) = omega arith in
    let steps : l - i ≡ suc (l - (i + 1)) = omega arith in
    let below : G - i - 1 ≡ G - (i + 1) = omega arith in
    let place_of_bits : G - i - 1 ≡ G - 1 - i = omega arith in
    let bits = ap (λ n. bits_at n low * sequence_count D (G - i - 1)) place_of_bits in
    let rest = ap (λ n. place D n (sequence_of n (l - (i + 1)) low)) below in
    ap (λ n. place D n (sequence_of n (l - i) low)) cells
    ∙ ap (λ n. place D (suc (G - i - 1)) (sequence_of (suc (G - i - 1)) n low)) steps
    ∙ omega (arith, bits, rest)

pub no_number : (D G l : ℕ) (low : List ℕ) → rest_of_place D G l l low ≡ 0
no_number D G l low = let none : l - l ≡ 0 = omega arith in
    ap (λ n. place D (G - l) (sequence_of (G - l) n low)) none ∙ empty (G - l)
  where
    empty : (g : ℕ) → place D g (sequence_of g 0 low) ≡ 0
    empty zero = refl
    empty (suc g) = refl

pub next_step : (D G l i code q n total : ℕ) (low : List ℕ) → i < l → l ≤ G
    → q ≡ bits_at (G - 1 - i) low → n ≡ sequence_count D (G - i - 1)
    → code + rest_of_place D G l i low ≡ total
    → code + (q * n + 1) + rest_of_place D G l (i + 1) low ≡ total
next_step D G l i code q n total low less most is_bits is_count so_far =
    let product : q * n ≡ bits_at (G - 1 - i) low * sequence_count D (G - i - 1) =
    ap (λ m. m * n) is_bits ∙ ap (λ m. bits_at (G - 1 - i) low * m) is_count in
    omega (arith, so_far, product, next_number D G l i low less most)

pub place_fits : (D G l : ℕ) (low : List ℕ) → (D ≡ 2) ⊎ (D ≡ 3) → G ≤ 16 → length low ≡ D
    → place D G (sequence_of G l low) < 2 ^ 63
place_fits D G l low dimensions few size =
    let some : 1 ≤ D = ⊎_elim (λ two. omega arith) (λ three. omega arith) dimensions in
    let most : D ≤ 3 = ⊎_elim (λ two. omega arith) (λ three. omega arith) dimensions in
    omega (
      arith,
      place_within D G (sequence_of G l low) (is_sequence D G l low size),
      count_fits D G some most few,
    )

pub ends_at_place : (D G l i code : ℕ) (low : List ℕ) → i ≡ l
    → code + rest_of_place D G l i low ≡ place D G (sequence_of G l low)
    → code ≡ place D G (sequence_of G l low)
ends_at_place D G l i code low all so_far =
    let none : rest_of_place D G l i low ≡ 0 =
    ap (λ n. rest_of_place D G l n low) all ∙ no_number D G l low in
    omega (arith, none, so_far)

pub next_fits : (D G l i code q n : ℕ) (low : List ℕ) → (D ≡ 2) ⊎ (D ≡ 3) → G ≤ 16 → length low ≡ D
    → i < l → l ≤ G → q ≡ bits_at (G - 1 - i) low → n ≡ sequence_count D (G - i - 1)
    → code + rest_of_place D G l i low ≡ place D G (sequence_of G l low)
    → code + (q * n + 1) < 2 ^ 63
next_fits D G l i code q n low dimensions few size less most is_bits is_count so_far =
    omega (
      arith,
      next_step D G l i code q n (place D G (sequence_of G l low)) low less most is_bits
          is_count so_far,
      place_fits D G l low dimensions few size,
    )
