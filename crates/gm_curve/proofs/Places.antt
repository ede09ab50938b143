-- The place of a sequence in the listing, by the closed form.
use Rattle.std.proofs.Common.{◌≡◌, ◌≢◌, ⊎_elim, ℕ, zero, suc, ◌+◌, ◌*◌, ◌^◌, ◌<◌, ◌≤◌, Bool, true}
use Rattle.std.proofs.Common.{false, ◌&&◌, cond, eqb, eq-eqb, List, [], ◌∷◌, ◌++◌, map, length}
use Rattle.std.proofs.Common.{Some, refl, sym, ap, ◌∙◌, arith, length-append}
use Rattle.std.specs.Prelude.{slice_get}
use Rattle.std.specs.Cmp.Lexicographic.{pointwise, bytes_decides}
use Rattle.std.proofs.lemmas.Bool.{cases_lt, ne_eqb}
use Rattle.std.proofs.lemmas.List.{length-map}
use Rattle.std.proofs.lemmas.Grind.{common_steps}
use Rattle.std.proofs.Math.Nat.{mul-le-mul_right}
use Rattle.gm_curve.specs.Listing.{prefixed, listing, sequence_count, IsSequence, place_in}

-- ---- how many
part_within : (q n w : ℕ) → q < n → q * w + w ≤ n * w
part_within q n w h = grind (arith, mul-le-mul_right w h)

next_product : (m w : ℕ) → suc m * w ≡ m * w + w
next_product m w = grind (arith, common_steps)

length-prefixed : (m : ℕ) (rest : List (List ℕ)) → length (prefixed m rest) ≡ m * length rest
length-prefixed zero rest = omega arith
length-prefixed (suc m) rest =
    omega (
      arith,
      next_product m (length rest),
      length-append (prefixed m rest) (map (λ path. m ∷ path) rest),
      length-prefixed m rest,
      length-map rest (λ path. m ∷ path),
    )

pub length-listing : (D g : ℕ) → length (listing D g) ≡ sequence_count D g
length-listing D zero = omega arith
length-listing D (suc g) =
    let each = ap (λ n. 2 ^ D * n) (length-listing D g) in
    omega (arith, length-prefixed (2 ^ D) (listing D g), each)

pub some_sequence : (D g : ℕ) → 1 ≤ sequence_count D g
some_sequence D zero = omega arith
some_sequence D (suc g) = omega arith

-- ---- a place in joined lists
found_first : (found : Bool) (n m l : ℕ) → (n < l → m ≡ n) → cond found 0 (suc n) < suc l
    → cond found 0 (suc m) ≡ cond found 0 (suc n)
found_first true n m l same less = refl
found_first false n m l same less = ap suc (same (omega arith))

found_later : (found : Bool) (n m l k : ℕ) → (n ≡ l → m ≡ l + k) → cond found 0 (suc n) ≡ suc l
    → cond found 0 (suc m) ≡ suc l + k
found_later true n m l k next none = absurd (omega arith)
found_later false n m l k next none = let rest : m ≡ l + k = next (omega arith) in omega arith

place-append_first : (xs ys : List (List ℕ)) (path : List ℕ) → place_in xs path < length xs
    → place_in (xs ++ ys) path ≡ place_in xs path
place-append_first [] ys path less = absurd (omega arith)
place-append_first (x ∷ xs) ys path less =
    found_first (pointwise eqb x path) (place_in xs path) (place_in (xs ++ ys) path) (length xs)
    (place-append_first xs ys path) less

place-append_later : (xs ys : List (List ℕ)) (path : List ℕ) → place_in xs path ≡ length xs
    → place_in (xs ++ ys) path ≡ length xs + place_in ys path
place-append_later [] ys path none = omega arith
place-append_later (x ∷ xs) ys path none =
    found_later (pointwise eqb x path) (place_in xs path) (place_in (xs ++ ys) path) (length xs)
    (place_in ys path) (place-append_later xs ys path) none

place-map : (m : ℕ) (rest : List (List ℕ)) (path : List ℕ)
    → place_in (map (λ p. m ∷ p) rest) (m ∷ path) ≡ place_in rest path
place-map m [] path = refl
place-map m (s ∷ rest) path =
    ap (λ b. cond (b && pointwise eqb s path) 0 (suc (place_in (map (λ p. m ∷ p) rest) (m ∷ path))))
    (eq-eqb m m refl)
    ∙ ap (λ n. cond (pointwise eqb s path) 0 (suc n)) (place-map m rest path)

none-map : (m q : ℕ) (rest : List (List ℕ)) (path : List ℕ) → m ≢ q
    → place_in (map (λ p. m ∷ p) rest) (q ∷ path) ≡ length rest
none-map m q [] path other = refl
none-map m q (s ∷ rest) path other =
    ap (λ b. cond (b && pointwise eqb s path) 0 (suc (place_in (map (λ p. m ∷ p) rest) (q ∷ path))))
    (ne_eqb m q other)
    ∙ ap suc (none-map m q rest path other)

-- ---- a place among those with a number before them
none-prefixed : (m q : ℕ) (rest : List (List ℕ)) (path : List ℕ) → m ≤ q
    → place_in (prefixed m rest) (q ∷ path) ≡ length (prefixed m rest)
none-prefixed zero q rest path past = refl
none-prefixed (suc m) q rest path past =
    let other : m ≢ q = omega arith in
    place-append_later (prefixed m rest) (map (λ p. m ∷ p) rest) (q ∷ path)
    (none-prefixed m q rest path (omega arith))
    ∙ ap (λ n. length (prefixed m rest) + n)
    (none-map m q rest path other ∙ sym (length-map rest (λ p. m ∷ p)))
    ∙ sym (length-append (prefixed m rest) (map (λ p. m ∷ p) rest))

place-prefixed : (m q : ℕ) (rest : List (List ℕ)) (path : List ℕ) → q < m
    → place_in rest path < length rest
    → place_in (prefixed m rest) (q ∷ path) ≡ q * length rest + place_in rest path
place-prefixed zero q rest path less inside = absurd (omega arith)
place-prefixed (suc m) q rest path less inside =
    ⊎_elim
    (λ earlier.
    let before = place-prefixed m q rest path earlier inside in
    place-append_first (prefixed m rest) (map (λ p. m ∷ p) rest) (q ∷ path)
    (omega (
      arith,
      before,
      inside,
      part_within q m (length rest) earlier,
      length-prefixed m rest,
    )) ∙ before)
    (λ late.
    let last : m ≡ q = omega arith in
    place-append_later (prefixed m rest) (map (λ p. m ∷ p) rest) (q ∷ path)
    (none-prefixed m q rest path late)
    ∙ ap (λ n. length (prefixed m rest) + n)
    (ap (λ n. place_in (map (λ p. m ∷ p) rest) (n ∷ path)) (sym last) ∙ place-map m rest path)
    ∙ ap (λ n. n + place_in rest path) (length-prefixed m rest ∙ ap (λ n. n * length rest) last))
    (cases_lt q m)

-- ---- the closed form
abbrev pub place : ℕ → ℕ → List ℕ → ℕ
place D g [] = 0
place D zero (q ∷ path) = 0
place D (suc g) (q ∷ path) = 1 + q * sequence_count D g + place D g path

pub rest_of : (D g q : ℕ) (path : List ℕ) → IsSequence D (suc g) (q ∷ path)
    → (q < 2 ^ D) × IsSequence D g path
rest_of D g q path is = (
  is.members 0 0 (omega arith),
  record {
    short = let h : length (q ∷ path) ≤ suc g = is.short in omega (arith, h);
    members = λ k d inside. is.members (suc k) d (omega arith);
  },
)

pub place_within : (D g : ℕ) (path : List ℕ) → IsSequence D g path
    → place D g path < sequence_count D g
place_within D g [] is = some_sequence D g
place_within D zero (q ∷ path) is = some_sequence D zero
place_within D (suc g) (q ∷ path) is =
    let rest = rest_of D g q path is in
    omega (arith, place_within D g path rest.1, part_within q (2 ^ D) (sequence_count D g) rest.0)

pub place_closed : (D g : ℕ) (path : List ℕ) → IsSequence D g path
    → place_in (listing D g) path ≡ place D g path
place_closed D zero [] is = refl
place_closed D (suc g) [] is = refl
place_closed D zero (q ∷ path) is = let h : length (q ∷ path) ≤ 0 = is.short in
    absurd (omega (arith, h))
place_closed D (suc g) (q ∷ path) is =
    let rest = rest_of D g q path is in
    let closed = place_closed D g path rest.1 in
    let inside : place_in (listing D g) path < length (listing D g) =
    omega (arith, closed, place_within D g path rest.1, length-listing D g) in
    let below : place_in (prefixed (2 ^ D) (listing D g)) (q ∷ path)
    ≡ q * length (listing D g) + place_in (listing D g) path =
    place-prefixed (2 ^ D) q (listing D g) path rest.0 inside in
    omega (arith, below, closed, ap (λ n. q * n) (length-listing D g))

-- ---- what stands at the place
found_there : (found : Bool) (s path : List ℕ) (rest : List (List ℕ)) (n : ℕ)
    → (found ≡ true → s ≡ path) → (n < length rest → slice_get rest n ≡ Some path)
    → cond found 0 (suc n) < suc (length rest)
    → slice_get (s ∷ rest) (cond found 0 (suc n)) ≡ Some path
found_there true s path rest n same next less = ap (λ p. Some p) (same refl)
found_there false s path rest n same next less = next (omega arith)

at_place : (xs : List (List ℕ)) (path : List ℕ) → place_in xs path < length xs
    → slice_get xs (place_in xs path) ≡ Some path
at_place [] path less = absurd (omega arith)
at_place (s ∷ rest) path less =
    found_there (pointwise eqb s path) s path rest (place_in rest path) ((bytes_decides s path).0)
    (at_place rest path) less

pub listed : (D g : ℕ) (path : List ℕ) → IsSequence D g path
    → slice_get (listing D g) (place_in (listing D g) path) ≡ Some path
listed D g path is =
    at_place (listing D g) path
    (omega (arith, place_closed D g path is, place_within D g path is, length-listing D g))
