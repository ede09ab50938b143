-- Windows for which runs were found before.
use Rattle.std.specs.Prelude.{◌≡◌, ℕ, List}
use Rattle.gm_trees.specs.declared.window.Window.{Window}
use Rattle.gm_trees.specs.Tree.{Shape}
use Rattle.gm_split.specs.Explained.{explained_runs, stop_level}
use Rattle.gm_split.specs.declared.answer.Split.{Split}
use Rattle.gm_plan.specs.declared.space.Known.{Known}

-- the explained runs of windows, and their level
pub record IsFound (s : Shape) (target : ℕ) (windows : List Window) (found : Split) : Type 0 where
  pub level : found.level ≡ stop_level 3 s windows target
  pub runs : found.runs ≡ explained_runs 3 s windows target

abbrev pub IsKnown : Shape → ℕ → Known → Type 0
IsKnown s target known = IsFound s target known.windows.items known.found
