-- The order of bytes, for numbers that are written with their highest byte first.
use Rattle.std.proofs.Common.{◌≡◌, ◌<◌, ◌≤◌, ⊎_elim, ℕ, zero, suc, ◌+◌, ◌*◌, ◌^◌, ◌%◌, ◌/◌, List}
use Rattle.std.proofs.Common.{[], ◌∷◌, ◌++◌, length, drop, slice_index, refl, sym, ap, ◌∙◌, arith}
use Rattle.std.proofs.Common.{mod-eq_of_lt, mod-lt, mul-le-mul_right, add-mul, div-one}
use Rattle.std.proofs.Math.Nat.{one-le-pow}
use Rattle.std.proofs.lemmas.Nat.{mod-pow-add}
use Rattle.std.proofs.lemmas.Bool.{cases_order}
use Rattle.std.specs.Int.{byte_at}
use Rattle.std.specs.Ordering.{nat_cmp, ordering_then, ordering_reverse}
use Rattle.std.specs.Cmp.{nat_cmp_total, nat_cmp_is, tied_itself}
use Rattle.std.specs.Cmp.Lexicographic.{slice_cmp, nat_list_cmp_total}
use Rattle.std.specs.declared.cmp.Ordering.TheVariants.{Less, Equal, Greater}
use Rattle.byteorder.specs.Endian.{big_from, big_bytes}
use Rattle.byteorder.specs.Numbers.{big_number-reads_back, big_from-cons, big_from-lt}
use Rattle.byteorder.specs.Numbers.{length-bytes_high_first}
use Rattle.gm_base.proofs.Numbers.{pow256}

-- a front that both have does not count
pub slice_cmp-front : (front a b : List ℕ)
    → slice_cmp nat_cmp (front ++ a) (front ++ b) ≡ slice_cmp nat_cmp a b
slice_cmp-front [] a b = refl
slice_cmp-front (x ∷ front) a b =
    ap (λ r. ordering_then r (slice_cmp nat_cmp (front ++ a) (front ++ b)))
    (tied_itself nat_cmp_total x) ∙ slice_cmp-front front a b

-- two lists whose first parts are as long are one where both parts are
pub same_parts : {A : Type 0} (a b s t : List A) → length a ≡ length b → a ++ s ≡ b ++ t
    → (a ≡ b) × (s ≡ t)
same_parts [] [] s t long same = (refl, same)
same_parts [] (y ∷ b) s t long same = absurd (omega arith)
same_parts (x ∷ a) [] s t long same = absurd (omega arith)
same_parts (x ∷ a) (y ∷ b) s t long same =
    let first : x ≡ y = cc in
    let later : a ++ s ≡ b ++ t = cc in
    let rest = same_parts a b s t (omega arith) later in
    (λ i. first i ∷ rest.0 i, rest.1)

-- ---- numbers
byte_at-pow : (k a : ℕ) → byte_at k a ≡ a / 256 ^ k % 256
byte_at-pow zero a = ap (λ (x : ℕ). x % 256) (sym (div-one a))
byte_at-pow (suc k) a = refl

-- the highest of k + 1 bytes, and what the others say
top_byte : (k a : ℕ) → a % 256 ^ suc k ≡ byte_at k a * 256 ^ k + a % 256 ^ k
top_byte k a =
    let eight : 8 * suc k ≡ 8 + 8 * k = omega arith in
    ap (λ (m : ℕ). a % m) (pow256 (suc k) ∙ ap (λ (n : ℕ). 2 ^ n) eight) ∙ mod-pow-add a 8 (8 * k)
    ∙ ap (λ (m : ℕ). (a / m % 256) * m + a % m) (sym (pow256 k))
    ∙ ap (λ (t : ℕ). t * 256 ^ k + a % 256 ^ k) (sym (byte_at-pow k a))

-- a lower top makes a lower number
lower_top : (x y m a b : ℕ) → x * m + a < y * m + b → b < m → y < x → ⊥
lower_top x y m a b less below turned =
    let more : (y + 1) * m ≤ x * m = mul-le-mul_right m (omega arith) in
    let spread : (y + 1) * m ≡ y * m + 1 * m = add-mul y 1 m in
    omega arith

big-less-rest : (k a b : ℕ) (s t : List ℕ) → a % 256 ^ k < b % 256 ^ k
    → slice_cmp nat_cmp (big_bytes k a ++ s) (big_bytes k b ++ t) ≡ Less
big-less-rest zero a b s t less = absurd (omega arith)
big-less-rest (suc k) a b s t less =
    let split : byte_at k a * 256 ^ k + a % 256 ^ k < byte_at k b * 256 ^ k + b % 256 ^ k =
    rw (← top_byte k a, ← top_byte k b) less in
    let left = slice_cmp nat_cmp (big_bytes k a ++ s) (big_bytes k b ++ t) in
    ⊎_elim
    (λ same. let same_part : byte_at k a * 256 ^ k ≡ byte_at k b * 256 ^ k =
    ap (λ (x : ℕ). x * 256 ^ k) same in
    ap (λ r. ordering_then r left) (sym (nat_cmp_is (byte_at k a) (byte_at k b) Equal same))
    ∙ big-less-rest k a b s t (omega (arith, split, same_part)))
    (⊎_elim
    (λ lower. ap (λ r. ordering_then r left)
    (sym (nat_cmp_is (byte_at k a) (byte_at k b) Less lower)))
    (λ higher. absurd
    (lower_top (byte_at k a) (byte_at k b) (256 ^ k) (a % 256 ^ k) (b % 256 ^ k) split
    (mod-lt b (one-le-pow k 256 (omega arith))) higher)))
    (cases_order (byte_at k a) (byte_at k b))

big-less : (k a b : ℕ) (s t : List ℕ) → a < b → b < 256 ^ k
    → slice_cmp nat_cmp (big_bytes k a ++ s) (big_bytes k b ++ t) ≡ Less
big-less k a b s t less fits =
    let small : a % 256 ^ k ≡ a = mod-eq_of_lt (omega arith) in
    let great : b % 256 ^ k ≡ b = mod-eq_of_lt fits in
    big-less-rest k a b s t (rw (small, great) less)

-- numbers of k bytes are in the order of their bytes, and where they are equal what follows decides
pub numbers_in_order : (k a b : ℕ) (s t : List ℕ) → a < 256 ^ k → b < 256 ^ k
    → slice_cmp nat_cmp (big_bytes k a ++ s) (big_bytes k b ++ t)
    ≡ ordering_then (nat_cmp a b) (slice_cmp nat_cmp s t)
numbers_in_order k a b s t fits fits' =
    let later = slice_cmp nat_cmp s t in
    ⊎_elim
    (λ same. ap (λ (n : ℕ). slice_cmp nat_cmp (big_bytes k a ++ s) (big_bytes k n ++ t)) (sym same)
    ∙ slice_cmp-front (big_bytes k a) s t
    ∙ ap (λ r. ordering_then r later) (nat_cmp_is a b Equal same))
    (⊎_elim
    (λ less. big-less k a b s t less fits'
    ∙ ap (λ r. ordering_then r later) (nat_cmp_is a b Less less))
    (λ more. nat_list_cmp_total.antisymm (big_bytes k a ++ s) (big_bytes k b ++ t)
    ∙ ap ordering_reverse (big-less k b a t s more fits)
    ∙ ap (λ r. ordering_then r later) (nat_cmp_is a b Greater more)))
    (cases_order a b)

-- and are told apart by them
same_from_big : (k a b : ℕ) → a < 256 ^ k → b < 256 ^ k → big_bytes k a ≡ big_bytes k b → a ≡ b
same_from_big k a b fits fits' same =
    sym (big_number-reads_back k a [] fits) ∙ ap (λ bytes. big_from 0 k (bytes ++ [])) same
    ∙ big_number-reads_back k b [] fits'

pub no_number_is_a_front : (k a b : ℕ) (s t : List ℕ) → a < 256 ^ k → b < 256 ^ k
    → big_bytes k a ++ s ≡ big_bytes k b ++ t → (a ≡ b) × (s ≡ t)
no_number_is_a_front k a b s t fits fits' same =
    let parts = same_parts (big_bytes k a) (big_bytes k b) s t
    (length-bytes_high_first k a ∙ sym (length-bytes_high_first k b)) same in
    (same_from_big k a b fits fits' parts.0, parts.1)

-- ---- bytes by their number
parts_are_one : (q q' m r r' : ℕ) → q * m + r ≡ q' * m + r' → r < m → r' < m → (q ≡ q') × (r ≡ r')
parts_are_one q q' m r r' same small small' = ⊎_elim
    (λ is. let part : q * m ≡ q' * m = ap (λ (x : ℕ). x * m) is in (is, omega arith))
    (⊎_elim
    (λ less. let more : (q + 1) * m ≤ q' * m = mul-le-mul_right m (omega arith) in
    let spread : (q + 1) * m ≡ q * m + 1 * m = add-mul q 1 m in
    absurd (omega arith))
    (λ more. let less : (q' + 1) * m ≤ q * m = mul-le-mul_right m (omega arith) in
    let spread : (q' + 1) * m ≡ q' * m + 1 * m = add-mul q' 1 m in
    absurd (omega arith)))
    (cases_order q q')

same_bytes : (k a b : ℕ) → a % 256 ^ k ≡ b % 256 ^ k → big_bytes k a ≡ big_bytes k b
same_bytes zero a b same = refl
same_bytes (suc k) a b same =
    let parts = parts_are_one (byte_at k a) (byte_at k b) (256 ^ k) (a % 256 ^ k) (b % 256 ^ k)
    (sym (top_byte k a) ∙ same ∙ top_byte k b)
    (mod-lt a (one-le-pow k 256 (omega arith))) (mod-lt b (one-le-pow k 256 (omega arith))) in
    (λ i. parts.0 i ∷ same_bytes k a b parts.1 i)

-- k bytes are those of the number that they write
pub bytes_of_number : (k : ℕ) (xs : List ℕ) → k ≤ length xs → ((i : ℕ) → slice_index xs i < 256)
    → big_bytes k (big_from 0 k xs) ++ drop k xs ≡ xs
bytes_of_number zero xs enough small = refl
bytes_of_number (suc k) [] enough small = absurd (omega arith)
bytes_of_number (suc k) (a ∷ xs) enough small =
    let later : (i : ℕ) → slice_index xs i < 256 = λ i. small (suc i) in
    let rest = big_from 0 k xs in
    let all = big_from 0 (suc k) (a ∷ xs) in
    let is : all ≡ a * 256 ^ k + rest = ap (λ (n : ℕ). a * 256 ^ k + n) (big_from-cons 0 k a xs) in
    let below : rest < 256 ^ k = big_from-lt 0 k xs later in
    let whole : all % 256 ^ suc k ≡ all = mod-eq_of_lt (big_from-lt 0 (suc k) (a ∷ xs) small) in
    let parts = parts_are_one (byte_at k all) a (256 ^ k) (all % 256 ^ k) rest
    (sym (top_byte k all) ∙ whole ∙ is) (mod-lt all (one-le-pow k 256 (omega arith))) below in
    (λ i. parts.0 i ∷ (same_bytes k all rest (parts.1 ∙ sym (mod-eq_of_lt below)) i ++ drop k xs))
    ∙ ap (λ tail. a ∷ tail) (bytes_of_number k xs (omega arith) later)
