use Rattle.gm_split.proofs.Promised.{covered}
use Rattle.gm_split.proofs.laws.explained_runs_cover.Goals as goal

pub returns : goal.returns
returns g c = λ ws target code path some at meet. covered g.row.D (g.T.Tree.shape c.args.tree.now)
    ws (g.T.Tree.Comes c.args.tree.now) (g.met.T.Tree.laws c.args.tree.now c.requires)
    c.run_laws.ensures target some code path at meet
