-- Which band has a height.
use Rattle.std.proofs.Common.{◌≡◌, ◌↔◌, ℕ, suc, ◌+◌, ◌-◌, ◌*◌, ◌/◌, ◌<◌, ◌≤◌, ℤ, pos, ◌-ℤ◌, ◌≤ℤ◌}
use Rattle.std.proofs.Common.{Bool, true, false, ◌&&◌, refl, ap, ◌∙◌, inl, inr, arith}
use Rattle.std.specs.Prelude.{int_le, nat_le, unsigned_abs}
use Rattle.std.proofs.Math.Nat.{div-lt_iff_lt-mul, le-div_iff_mul-le, mul_comm, mul-le-mul_right}
use Rattle.std.proofs.Math.Nat.{le_refl}
use Rattle.std.proofs.lemmas.Nat.{div_below}
use Rattle.std.proofs.lemmas.Int.{ints, clamps}
use Rattle.std.proofs.lemmas.Bool.{and_from, leb-true, leb-false, cases_lt}
use Rattle.gm_base.proofs.Numbers.{le_to}
use Rattle.gm_geom.specs.declared.point.Box2.{Box2}
use Rattle.gm_shapes.specs.Segment.{box_of}
use Rattle.gm_prepared.specs.declared.edge.Edge.{Edge}
use Rattle.gm_prepared.specs.Edge.{segment_of}
use Rattle.gm_prepared.specs.Band.{height_of, count_of, offset_of, band_low, band_high, meets_band}
use Rattle.gm_prepared.specs.Band.{band_at}
use Rattle.gm_prepared.specs.Placing.{IsFlatIn}

-- the part k of n begins at most at d exactly where it is at most the part that has d
starts_by : (h n k d : ℕ) → 0 < h → 0 < n → (k * h / n ≤ d) ↔ (k ≤ ((d + 1) * n - 1) / h)
starts_by h n k d high some = (
  λ e.
      let under : k * h / n < d + 1 = omega (arith, e) in
      let times : k * h < (d + 1) * n =
      (div-lt_iff_lt-mul {k = n} {x = k * h} {y = d + 1} some).0 under in
      let upto : k * h ≤ (d + 1) * n - 1 = omega (arith, times) in
      (le-div_iff_mul-le {k = h} {x = k} {y = (d + 1) * n - 1} high).1 upto,
  λ e.
      let upto : k * h ≤ (d + 1) * n - 1 =
      (le-div_iff_mul-le {k = h} {x = k} {y = (d + 1) * n - 1} high).0 e in
      let some_more : 0 < (d + 1) * n = omega (arith, some) in
      let times : k * h < (d + 1) * n = omega (arith, upto, some_more) in
      let under : k * h / n < d + 1 =
      (div-lt_iff_lt-mul {k = n} {x = k * h} {y = d + 1} some).1 times in
      omega (arith, under),
)

by_test : (x y : ℤ) (m n : ℕ) (s t : Bool) → int_le x y ≡ s → nat_le m n ≡ t
    → (x ≤ℤ y) ↔ (m ≤ n) → s ≡ t
by_test x y m n true true e f h = refl
by_test x y m n false false e f h = refl
by_test x y m n true false e f h =
    let upto : m ≤ n = h.0 (omega (arith, ints, e)) in
    absurd (omega (arith, leb-false m n f, upto))
by_test x y m n false true e f h =
    let upto : x ≤ℤ y = h.1 (leb-true m n f) in
    absurd (omega (arith, ints, e, upto))

-- two tests that hold together are one
same_le : (x y : ℤ) (m n : ℕ) → (x ≤ℤ y) ↔ (m ≤ n) → int_le x y ≡ nat_le m n
same_le x y m n h = by_test x y m n (int_le x y) (nat_le m n) refl refl h

by_lt : (k n : ℕ) → (suc k ≤ n → n ≤ k) → n ≤ k
by_lt k n f = elim (cases_lt k n) [ inl past ↦ f (omega (arith, past)) | inr upto ↦ upto ]

by_le : (m n : ℕ) → (m ≤ n → n < m) → n < m
by_le m n f = elim (cases_lt n m) [ inl less ↦ less | inr upto ↦ f upto ]

-- how far the y is above the box's least
abbrev above : Box2 → ℤ → ℕ
above box y = unsigned_abs (y -ℤ box.low.y)

reach : (z : ℤ) → pos 0 ≤ℤ z → pos (unsigned_abs z) ≡ z
reach z h = omega (arith, ints, h)

pub some_height : (box : Box2) → 0 < height_of box
some_height box = omega arith

pub some_count : (box : Box2) → 0 < count_of box
some_count box = omega (arith, some_height box)

-- the band k begins at or below y exactly where it is at most the band that has y
pub low_by : (box : Box2) (k : ℕ) (y : ℤ) → box.low.y ≤ℤ y
    → (band_low box k ≤ℤ y) ↔ (k ≤ band_at box y)
low_by box k y h =
    let far : pos (above box y) ≡ y -ℤ box.low.y =
    reach (y -ℤ box.low.y) (omega (arith, ints, h)) in
    let by : (offset_of box k ≤ above box y) ↔ (k ≤ band_at box y) =
    starts_by (height_of box) (count_of box) k (above box y) (some_height box)
    (some_count box) in (
      λ e. by.0 (omega (arith, ints, e, far)),
      λ e. let f : offset_of box k ≤ above box y = by.1 e in omega (arith, ints, f, far),
    )

-- and ends at or above it exactly where it is at least that band
pub high_by : (box : Box2) (k : ℕ) (y : ℤ) → box.low.y ≤ℤ y
    → (y ≤ℤ band_high box k) ↔ (band_at box y ≤ k)
high_by box k y h =
    let far : pos (above box y) ≡ y -ℤ box.low.y =
    reach (y -ℤ box.low.y) (omega (arith, ints, h)) in
    let by : (offset_of box (suc k) ≤ above box y) ↔ (suc k ≤ band_at box y) =
    starts_by (height_of box) (count_of box) (suc k) (above box y) (some_height box)
    (some_count box) in (
      λ e. let f : above box y < offset_of box (suc k) = omega (arith, ints, e, far) in
          by_lt k (band_at box y)
          (λ past. let g : offset_of box (suc k) ≤ above box y = by.1 past in
          absurd (omega (arith, f, g))),
      λ e. let f : above box y < offset_of box (suc k) =
          by_le (offset_of box (suc k)) (above box y)
          (λ under. let g : suc k ≤ band_at box y = by.0 under in
          absurd (omega (arith, e, g))) in
          omega (arith, ints, f, far),
    )

pub at_below : (box : Box2) (y : ℤ) → box.low.y ≤ℤ y → y ≤ℤ box.high.y
    → band_at box y < count_of box
at_below box y from to =
    let far : pos (above box y) ≡ y -ℤ box.low.y =
    reach (y -ℤ box.low.y) (omega (arith, ints, from)) in
    let whole : pos (unsigned_abs (box.high.y -ℤ box.low.y)) ≡ box.high.y -ℤ box.low.y =
    reach (box.high.y -ℤ box.low.y) (omega (arith, ints, from, to)) in
    let under : above box y + 1 ≤ height_of box = omega (arith, ints, far, whole, to) in
    let times : (above box y + 1) * count_of box ≤ height_of box * count_of box =
    mul-le-mul_right (count_of box) under in
    let some : 0 < (above box y + 1) * count_of box = omega (arith, some_count box) in
    let turned : height_of box * count_of box ≡ count_of box * height_of box =
    mul_comm (height_of box) (count_of box) in
    let less : (above box y + 1) * count_of box - 1 < count_of box * height_of box =
    omega (arith, times, some, turned) in
    div_below ((above box y + 1) * count_of box - 1) (height_of box) (count_of box)
    (some_height box) less

pub at_rises : (box : Box2) (y z : ℤ) → box.low.y ≤ℤ y → y ≤ℤ z → band_at box y ≤ band_at box z
at_rises box y z from to =
    let low : box.low.y ≤ℤ z = omega (arith, ints, from, to) in
    let here : band_low box (band_at box y) ≤ℤ y =
    (low_by box (band_at box y) y from).1 (le_refl (band_at box y)) in
    (low_by box (band_at box y) z low).0 (omega (arith, ints, here, to))

-- an edge that has a y meets the band that has it
pub meets_at : (box : Box2) (y : ℤ) (e : Edge) → box.low.y ≤ℤ y → (box_of (segment_of e)).low.y ≤ℤ y
    → y ≤ℤ (box_of (segment_of e)).high.y → meets_band box (band_at box y) e ≡ true
meets_at box y e from low high =
    let under : band_low box (band_at box y) ≤ℤ y =
    (low_by box (band_at box y) y from).1 (le_refl (band_at box y)) in
    let over : y ≤ℤ band_high box (band_at box y) =
    (high_by box (band_at box y) y from).1 (le_refl (band_at box y)) in
    and_from _ _
    (le_to (band_low box (band_at box y)) (box_of (segment_of e)).high.y
    (omega (arith, ints, under, high)))
    (le_to (box_of (segment_of e)).low.y (band_high box (band_at box y))
    (omega (arith, ints, over, low)))

-- an edge meets the bands from that of its lesser end to that of its greater
pub meets_from_to : (box : Box2) (k : ℕ) (e : Edge) → IsFlatIn box e
    → meets_band box k e
    ≡ (nat_le k (band_at box (box_of (segment_of e)).high.y)
    && nat_le (band_at box (box_of (segment_of e)).low.y) k)
meets_from_to box k e flat =
    let high_in : box.low.y ≤ℤ (box_of (segment_of e)).high.y =
    omega (arith, ints, clamps, flat.low_in) in
    let low : int_le (band_low box k) (box_of (segment_of e)).high.y
    ≡ nat_le k (band_at box (box_of (segment_of e)).high.y) =
    same_le _ _ _ _ (low_by box k (box_of (segment_of e)).high.y high_in) in
    let high : int_le (box_of (segment_of e)).low.y (band_high box k)
    ≡ nat_le (band_at box (box_of (segment_of e)).low.y) k =
    same_le _ _ _ _ (high_by box k (box_of (segment_of e)).low.y flat.low_in) in
    ap (λ b. b && int_le (box_of (segment_of e)).low.y (band_high box k)) low
    ∙ ap (λ b. nat_le k (band_at box (box_of (segment_of e)).high.y) && b) high
