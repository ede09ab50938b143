use Rattle.gm_split.proofs.Windowless.{no_runs, whole_depth}
use Rattle.gm_split.proofs.laws.no_window_no_run.Goals as goal

pub returns-clause-runs : goal.returns-clause-runs
returns-clause-runs g c =
    λ target. no_runs g.row.D (g.T.Tree.shape c.args.tree.now) c.run_laws.ensures target

pub returns-clause-level : goal.returns-clause-level
returns-clause-level g c =
    λ target. whole_depth g.row.D (g.T.Tree.shape c.args.tree.now) c.run_laws.ensures target
