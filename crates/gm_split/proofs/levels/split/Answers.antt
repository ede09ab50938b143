use Rattle.std.proofs.Common.{subst}
use Rattle.gm_runs.specs.Runs.{AreMaximalRuns}
use Rattle.gm_split.specs.Opening.{Covers}
use Rattle.gm_split.proofs.Answered.{only_stop, only_explained}
use Rattle.gm_split.proofs.Stop.{stop_runs, stop_few}
use Rattle.gm_split.proofs.levels.split.Goals as goal

pub returns-clause-level : goal.returns-clause-level
returns-clause-level g c =
    only_stop g.row.D (g.T.Tree.shape c.args.tree.now) c.args.windows.now
    (g.T.Tree.Comes c.args.tree.now) (g.met.T.Tree.laws c.args.tree.now c.requires.size)
    c.run_laws.ensures c.in_ok-found.found.level c.args.target
    c.in_ok-found.ensures.stop.stop

pub returns-clause-runs : goal.returns-clause-runs
returns-clause-runs g c =
    let s = g.T.Tree.shape c.args.tree.now in
    let runs = subst (λ xs. AreMaximalRuns c.in_ok-runs.runs (Covers s xs)) c.deref.ensures.value
    c.in_ok-runs.ensures in
    only_explained g.row.D s c.args.windows.now (g.T.Tree.Comes c.args.tree.now)
    (g.met.T.Tree.laws c.args.tree.now c.requires.size) c.run_laws.ensures
    c.in_ok-found.found.level c.args.target c.in_ok-runs.runs
    c.in_ok-found.ensures.stop.stop
    (stop_runs g.row.D s c.args.windows.now (g.T.Tree.Comes c.args.tree.now) c.args.target
    c.in_ok-found.found.level c.in_ok-found.found.front.pieces.items c.in_ok-runs.runs
    c.in_ok-found.ensures.stop runs)

pub returns-clause-few : goal.returns-clause-few
returns-clause-few g c =
    let s = g.T.Tree.shape c.args.tree.now in
    let runs = subst (λ xs. AreMaximalRuns c.in_ok-runs.runs (Covers s xs)) c.deref.ensures.value
    c.in_ok-runs.ensures in
    stop_few g.row.D s c.args.windows.now (g.T.Tree.Comes c.args.tree.now) c.args.target
    c.in_ok-found.found.level c.in_ok-found.found.front.pieces.items c.in_ok-runs.runs
    c.in_ok-found.ensures.stop runs
