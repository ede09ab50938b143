use Rattle.gm_split.proofs.Answered.{explained_are_runs}
use Rattle.gm_split.proofs.laws.explained_runs_rise.Goals as goal

pub returns-clause-runs : goal.returns-clause-runs
returns-clause-runs g c =
    λ ws target. explained_are_runs g.row.D (g.T.Tree.shape c.args.tree.now) ws
    c.run_laws.ensures target

pub returns-clause-rise : goal.returns-clause-rise
returns-clause-rise g c =
    λ ws target i less. c.runs_rise.ensures.rise _ i
    (explained_are_runs g.row.D (g.T.Tree.shape c.args.tree.now) ws c.run_laws.ensures target)
    less

pub returns-clause-apart : goal.returns-clause-apart
returns-clause-apart g c =
    λ ws target i less. c.runs_rise.ensures.apart _ i
    (explained_are_runs g.row.D (g.T.Tree.shape c.args.tree.now) ws c.run_laws.ensures target)
    less
