-- How a reach lies to windows.
use Rattle.std.specs.Prelude.{ℕ, Bool, true, false, cond, not, ◌&&◌, ◌||◌, leb, eqb, List, [], ◌∷◌}
use Rattle.gm_trees.specs.declared.window.Node3.{Node3}
use Rattle.gm_trees.specs.declared.window.Window.{Window}

-- whether a reach and a window overlap in each dimension
abbrev pub overlaps : ℕ → Node3 × Node3 → Window → Bool
overlaps D r w =
    (leb r.0.x w.high.x && leb w.low.x r.1.x) && ((leb r.0.y w.high.y && leb w.low.y r.1.y)
    && cond (eqb D 3) (leb r.0.t w.high.t && leb w.low.t r.1.t) true)

-- whether a reach is inside a window in each dimension
abbrev pub is_within : ℕ → Node3 × Node3 → Window → Bool
is_within D r w =
    (leb w.low.x r.0.x && leb r.1.x w.high.x) && ((leb w.low.y r.0.y && leb r.1.y w.high.y)
    && cond (eqb D 3) (leb w.low.t r.0.t && leb r.1.t w.high.t) true)

-- whether a reach overlaps one of the windows
abbrev pub meets : ℕ → List Window → Node3 × Node3 → Bool
meets D [] r = false
meets D (w ∷ ws) r = overlaps D r w || meets D ws r

-- whether a reach is inside a single one of the windows
abbrev pub is_inside : ℕ → List Window → Node3 × Node3 → Bool
is_inside D [] r = false
is_inside D (w ∷ ws) r = is_within D r w || is_inside D ws r

-- whether it overlaps a window and is inside no single one
abbrev pub is_partial : ℕ → List Window → Node3 × Node3 → Bool
is_partial D ws r = meets D ws r && not (is_inside D ws r)
