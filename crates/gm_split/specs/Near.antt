-- The windows near a reach, as a set of bits.
use Rattle.std.specs.Prelude.{◌≡◌, ℕ, ◌+◌, ◌*◌, cond, List, [], ◌∷◌}
use Rattle.std.specs.Int.{bit_at}
use Rattle.gm_trees.specs.declared.window.Node3.{Node3}
use Rattle.gm_trees.specs.declared.window.Window.{Window}
use Rattle.gm_split.specs.declared.windows.Lie.{Lie}
use Rattle.gm_split.specs.declared.windows.Lie.TheVariants.{Inside, Near}
use Rattle.gm_split.specs.Windows.{overlaps, is_inside}

-- bit i is set where the reach overlaps window i
abbrev pub near_of : ℕ → List Window → Node3 × Node3 → ℕ
near_of D [] r = 0
near_of D (w ∷ ws) r = cond (overlaps D r w) 1 0 + 2 * near_of D ws r

-- the set has each window that the reach overlaps
abbrev pub HasNear : ℕ → List Window → Node3 × Node3 → ℕ → Type 0
HasNear D ws r seen = (i : ℕ) → bit_at (near_of D ws r) i ≡ 1 → bit_at seen i ≡ 1

-- inside a single window, or else near some
abbrev pub lie_of : ℕ → List Window → Node3 × Node3 → Lie
lie_of D ws r = cond (is_inside D ws r) Inside (Near (near_of D ws r))
