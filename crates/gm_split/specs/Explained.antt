-- The decomposition as a function: whether a code is in a level set, and at which level to stop.
use Rattle.std.specs.Prelude.{ℕ, zero, suc, ◌+◌, ◌*◌, ◌^◌, Bool, false, cond, ◌&&◌, ◌||◌, leb, eqb}
use Rattle.std.specs.Prelude.{Option, Some, None, List, length}
use Rattle.gm_trees.specs.declared.node.Node.{Node}
use Rattle.gm_trees.specs.declared.window.Window.{Window}
use Rattle.gm_trees.specs.Tree.{Shape}
use Rattle.gm_runs.specs.Runs.{maximal_runs}
use Rattle.gm_split.specs.Windows.{meets}
use Rattle.gm_split.specs.Levels.{partial_count}

-- whether one of the numbers below n passes a test
abbrev pub any_below : ℕ → (ℕ → Bool) → Bool
any_below zero test = false
any_below (suc n) test = any_below n test || test n

abbrev pub is_own : Option ℕ → ℕ → Bool
is_own None c = false
is_own (Some d) c = eqb d c

-- whether a code is in the level set, this many levels below a node
abbrev pub in_level : ℕ → Shape → List Window → ℕ → Node → ℕ → Bool
in_level D s ws zero n c = (leb n.first c && leb c (s.last n)) && meets D ws (s.reach n)
in_level D s ws (suc k) n c =
    (is_own (s.own n) c && meets D ws (s.reach n))
    || any_below (2 ^ D) (λ q. in_level D s ws k (s.child n q) c)

-- the maximal runs of the level set at a level
unfoldable pub level_runs : ℕ → Shape → List Window → ℕ → List (ℕ × ℕ)
level_runs D s ws l = maximal_runs (in_level D s ws l s.root) (s.last s.root + 1)

-- whether a level has at most target runs, and at most 4 * target partial nodes
abbrev pub qualifies : ℕ → Shape → List Window → ℕ → ℕ → Bool
qualifies D s ws target l =
    leb (length (level_runs D s ws l)) target && leb (partial_count D s ws l s.root) (4 * target)

-- the last level before one that does not qualify, at most k levels on
unfoldable pub stop_from : ℕ → Shape → List Window → ℕ → ℕ → ℕ → ℕ
stop_from D s ws target zero l = l
stop_from D s ws target (suc k) l =
    cond (qualifies D s ws target (l + 1)) (stop_from D s ws target k (l + 1)) l

-- the greatest level up to the depth such that every level up to it qualifies
unfoldable pub stop_level : ℕ → Shape → List Window → ℕ → ℕ
stop_level D s ws target = stop_from D s ws target s.depth 0

-- the maximal runs of the level set at the stop level
unfoldable pub explained_runs : ℕ → Shape → List Window → ℕ → List (ℕ × ℕ)
explained_runs D s ws target = level_runs D s ws (stop_level D s ws target)
