use Rattle.std.proofs.Common.{◌≤◌, get_or, arith}
use Rattle.gm_split.specs.Explained.{explained_runs}
use Rattle.gm_split.proofs.Answered.{explained_are_runs}
use Rattle.gm_split.proofs.Promised.{held}
use Rattle.gm_split.proofs.laws.explained_runs_have_codes.Goals as goal

pub returns-clause-codes : goal.returns-clause-codes
returns-clause-codes g c =
    λ ws target code some has. held g.row.D (g.T.Tree.shape c.args.tree.now) ws
    (g.T.Tree.Comes c.args.tree.now) (g.met.T.Tree.laws c.args.tree.now c.requires)
    c.run_laws.ensures target some code has

pub returns-clause-ends : goal.returns-clause-ends
returns-clause-ends g c = λ ws target i some less.
    let s = g.T.Tree.shape c.args.tree.now in
    let runs = explained_runs g.row.D s ws target in
    let rise = c.runs_rise.ensures.rise runs i
    (explained_are_runs g.row.D s ws c.run_laws.ensures target) less in
    let low : (get_or runs i (0, 0)).0 ≤ (get_or runs i (0, 0)).0 = omega arith in
    let high : (get_or runs i (0, 0)).1 ≤ (get_or runs i (0, 0)).1 = omega arith in
    let has = held g.row.D s ws (g.T.Tree.Comes c.args.tree.now)
    (g.met.T.Tree.laws c.args.tree.now c.requires) c.run_laws.ensures target some in (
      has _ ((c.numbers_stand_in_runs.ensures runs _).1 (i, less, low, rise)),
      has _ ((c.numbers_stand_in_runs.ensures runs _).1 (i, less, rise, high)),
    )
