use Rattle.gm_split.proofs.Answered.{level_runs_maximal}
use Rattle.gm_split.proofs.laws.level_runs_are_level_sets.Goals as goal

pub returns : goal.returns
returns g c = λ ws l within. level_runs_maximal g.row.D (g.T.Tree.shape c.args.tree.now) ws
    (g.T.Tree.Comes c.args.tree.now) (g.met.T.Tree.laws c.args.tree.now c.requires)
    c.run_laws.ensures l within
