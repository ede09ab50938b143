-- The side of an edge on which a point lies that is lower than one end and at least as high as the
-- other.
use borrow.Author.Differences.{up, down}
use Rattle.std.proofs.Common.{◌≡◌, ℕ, ◌+◌, ◌-◌, ◌*◌, ℤ, pos, ◌-ℤ◌, ◌*ℤ◌, ◌≤ℤ◌, ◌<ℤ◌, ap, arith}
use Rattle.std.proofs.lemmas.Int.{ints}

-- the cross product of differences, each a natural less a natural: m - n with the way to the ends a
-- and b, and u and v up to them
weigh : (m n q r k a b u v : ℕ) → m + a ≡ n + b
    → m * (q + u) + n * q + ((r + (u + v)) * (k + a) + r * k)
    ≡ m * q + n * (q + u) + ((r + (u + v)) * k + r * (k + a)) + (b * u + v * a)
weigh m n q r k a b u v e = let f : (m + a) * u ≡ (n + b) * u = ap (λ i. i * u) e in
    omega (arith, f)

weighed : (m n q' q r' r k k' a b u v : ℕ) → m + a ≡ n + b → q' ≡ q + u → r' ≡ r + (u + v)
    → k' ≡ k + a → m * q' + n * q + (r' * k' + r * k)
    ≡ m * q + n * q' + (r' * k + r * k') + (b * u + v * a)
weighed m n q' q r' r k k' a b u v e eq er ek = rw eq (rw er (rw ek (weigh m n q r k a b u v e)))

-- how much greater y is
gap : (x y : ℤ) → x ≤ℤ y → (n : ℕ) × (up y + down x ≡ up x + down y + n)
gap x y h = ((up y + down x) - (up x + down y), omega (arith, ints, h))

gap_more : (x y : ℤ) → x <ℤ y → (n : ℕ) × (up y + down x ≡ up x + down y + (1 + n))
gap_more x y h = ((up y + down x) - (up x + down y + 1), omega (arith, ints, h))

lefts : (ax ay bx high px py : ℤ) (a b u v : ℕ) → up ax + down px ≡ up px + down ax + (1 + a)
    → up bx + down px ≡ up px + down bx + b → up py + down ay ≡ up ay + down py + u
    → up high + down py ≡ up py + down high + (1 + v)
    → pos 0 <ℤ ((bx -ℤ ax) *ℤ (py -ℤ ay) -ℤ (high -ℤ ay) *ℤ (px -ℤ ax))
lefts ax ay bx high px py a b u v ea eb eu ev =
    let em : up (bx -ℤ ax) + (1 + a) ≡ down (bx -ℤ ax) + b = omega (arith, ints, ea, eb) in
    let eq : up (py -ℤ ay) ≡ down (py -ℤ ay) + u = omega (arith, ints, eu) in
    let er : up (high -ℤ ay) ≡ down (high -ℤ ay) + (u + (1 + v)) = omega (arith, ints, eu, ev) in
    let ek : down (px -ℤ ax) ≡ up (px -ℤ ax) + (1 + a) = omega (arith, ints, ea) in
    omega (
      arith,
      ints,
      weighed (up (bx -ℤ ax)) (down (bx -ℤ ax)) (up (py -ℤ ay)) (down (py -ℤ ay))
          (up (high -ℤ ay)) (down (high -ℤ ay)) (up (px -ℤ ax)) (down (px -ℤ ax)) (1 + a) b u
          (1 + v) em eq er ek,
    )

rights : (ax ay bx high px py : ℤ) (a b u v : ℕ) → up px + down ax ≡ up ax + down px + a
    → up px + down bx ≡ up bx + down px + b → up py + down ay ≡ up ay + down py + u
    → up high + down py ≡ up py + down high + v
    → ((bx -ℤ ax) *ℤ (py -ℤ ay) -ℤ (high -ℤ ay) *ℤ (px -ℤ ax)) ≤ℤ pos 0
rights ax ay bx high px py a b u v ea eb eu ev =
    let em : down (bx -ℤ ax) + a ≡ up (bx -ℤ ax) + b = omega (arith, ints, ea, eb) in
    let eq : up (py -ℤ ay) ≡ down (py -ℤ ay) + u = omega (arith, ints, eu) in
    let er : up (high -ℤ ay) ≡ down (high -ℤ ay) + (u + v) = omega (arith, ints, eu, ev) in
    let ek : up (px -ℤ ax) ≡ down (px -ℤ ax) + a = omega (arith, ints, ea) in
    omega (
      arith,
      ints,
      weighed (down (bx -ℤ ax)) (up (bx -ℤ ax)) (up (py -ℤ ay)) (down (py -ℤ ay))
          (up (high -ℤ ay)) (down (high -ℤ ay)) (down (px -ℤ ax)) (up (px -ℤ ax)) a b u
          v em eq er ek,
    )

-- an edge to the right of p has p on its left
pub left_of : (ax ay bx high px py : ℤ) → ay ≤ℤ py → py <ℤ high → px <ℤ ax → px <ℤ bx
    → pos 0 <ℤ ((bx -ℤ ax) *ℤ (py -ℤ ay) -ℤ (high -ℤ ay) *ℤ (px -ℤ ax))
left_of ax ay bx high px py hu hv ha hb =
    let lb : px ≤ℤ bx = omega (arith, ints, hb) in
    lefts ax ay bx high px py _ _ _ _ (gap_more px ax ha).1 (gap px bx lb).1 (gap ay py hu).1
    (gap_more py high hv).1

-- an edge to the left of p has p not on its left
pub right_of : (ax ay bx high px py : ℤ) → ay ≤ℤ py → py <ℤ high → ax ≤ℤ px → bx ≤ℤ px
    → ((bx -ℤ ax) *ℤ (py -ℤ ay) -ℤ (high -ℤ ay) *ℤ (px -ℤ ax)) ≤ℤ pos 0
right_of ax ay bx high px py hu hv ha hb =
    let lv : py ≤ℤ high = omega (arith, ints, hv) in
    rights ax ay bx high px py _ _ _ _ (gap ax px ha).1 (gap bx px hb).1 (gap ay py hu).1
    (gap py high lv).1
