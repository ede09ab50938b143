-- What is known of the runs of a curve.
use Rattle.std.specs.Prelude.{◌≡◌, ◌<◌, ◌≤◌, ◌^◌, ℕ, true, List, length, slice_index_or}
use Rattle.gm_curve.specs.Curve.{z_code}
use Rattle.gm_curve.specs.Xz.{xz_code}
use Rattle.gm_runs.specs.Runs.{AreRuns, HasNumber}
use Rattle.gm_trees.specs.declared.window.Window.{Window}
use Rattle.gm_trees.specs.Tree.{Shape, HasCode}
use Rattle.gm_trees.specs.Paths.{AreCoordinates, cell_of}
use Rattle.gm_trees.specs.Z.{z_shape}
use Rattle.gm_trees.specs.Xz.{xz_shape}
use Rattle.gm_split.specs.Explained.{explained_runs}
use Rattle.gm_split.specs.Windows.{meets}

-- runs that rise, no more than the target, of codes of the tree, which have 64 bits
pub record IsCurve (D : ℕ) (s : Shape) : Type 0 where
  pub ends : (ws : List Window) (target i : ℕ) → 1 ≤ target
      → i < length (explained_runs D s ws target)
      → HasCode s s.root (slice_index_or (explained_runs D s ws target) i (0, 0)).0
      × HasCode s s.root (slice_index_or (explained_runs D s ws target) i (0, 0)).1
  pub room : s.last s.root < 2 ^ 64
  pub rise : (ws : List Window) (target : ℕ) → AreRuns (explained_runs D s ws target)
  pub few : (ws : List Window) (target : ℕ) → 1 ≤ target
      → length (explained_runs D s ws target) ≤ target

-- the codes of points whose cells are in windows are in the runs
pub record CoversPoints (D B : ℕ) : Type 0 where
  pub curve : IsCurve D (z_shape D B)
  pub covered : (ws : List Window) (target : ℕ) (at : List ℕ) → 1 ≤ target → AreCoordinates D B at
      → meets D ws (cell_of at, cell_of at) ≡ true
      → HasNumber (explained_runs D (z_shape D B) ws target) (z_code D B at)

-- and so are those of objects whose cells overlap windows
pub record CoversObjects (D G : ℕ) : Type 0 where
  pub curve : IsCurve D (xz_shape D G)
  pub covered : (ws : List Window) (target : ℕ) (low high : List ℕ) → 1 ≤ target
      → AreCoordinates D G low → AreCoordinates D G high
      → meets D ws (cell_of low, cell_of high) ≡ true
      → HasNumber (explained_runs D (xz_shape D G) ws target) (xz_code D G low high)
