-- A place beyond a span is in its last cell.
use Rattle.std.proofs.Common.{◌≡◌, ℕ, ◌-◌, ◌*◌, ◌/◌, ◌^◌, ◌<◌, ◌≤◌, min, refl, ap, ◌⊎◌, inl, inr}
use Rattle.std.proofs.Common.{arith}
use Rattle.std.proofs.lemmas.Bool.{cases_lt}
use Rattle.std.proofs.lemmas.Nat.{le-div}
use Rattle.std.proofs.lemmas.Int.{ints}
use Rattle.std.specs.Prelude.{ℤ, pos, negsuc, ◌+ℤ◌, ◌<ℤ◌}
use Rattle.gm_keys.specs.Cell.{natural, along}
use Rattle.gm_curve.specs.Scale.{normal_of}

least_below : (u span : ℕ) → u < span → min u span ≡ u
least_below u span h = omega arith

least_from : (u span : ℕ) → span ≤ u → min u span ≡ span
least_from u span h = omega arith

full : (u span cells : ℕ) → 1 ≤ span → span ≤ u → cells ≤ u * cells / span
full u span cells some h = le-div cells (u * cells) span some (grind arith)

both_full : (cells a b : ℕ) → cells ≤ a → cells ≤ b → min (cells - 1) a ≡ min (cells - 1) b
both_full cells a b h k = omega arith

by_cases : (u span bits : ℕ) → 1 ≤ span → (u < span) ⊎ (span ≤ u)
    → normal_of (min u span) span bits ≡ normal_of u span bits
by_cases u span bits some (inl h) = ap (λ n. normal_of n span bits) (least_below u span h)
by_cases u span bits some (inr h) =
    rw (least_from u span h)
    (both_full (2 ^ bits) (span * 2 ^ bits / span) (u * 2 ^ bits / span)
    (full span span (2 ^ bits) some (omega arith)) (full u span (2 ^ bits) some h))

pub normal_beyond : (u span bits : ℕ) → 1 ≤ span
    → normal_of (min u span) span bits ≡ normal_of u span bits
normal_beyond u span bits some = by_cases u span bits some (cases_lt u span)

natural_none : (w : ℤ) → w <ℤ pos 0 → natural w ≡ 0
natural_none (pos n) h = absurd (omega (arith, ints))
natural_none (negsuc n) h = refl

none_of : (n top : ℕ) → n ≡ 0 → 0 ≡ min n top
none_of n top h = omega arith

pub none_below : (half : ℕ) (z : ℤ) (top : ℕ) → (z +ℤ pos half) <ℤ pos 0
    → 0 ≡ min (along half z) top
none_below half z top h = none_of (along half z) top (natural_none (z +ℤ pos half) h)
