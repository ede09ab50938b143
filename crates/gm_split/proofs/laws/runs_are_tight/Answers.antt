use Rattle.gm_split.proofs.Promised.{tight}
use Rattle.gm_split.proofs.laws.runs_are_tight.Goals as goal

pub returns : goal.returns
returns g c = λ ws target code some deep has. tight g.row.D (g.T.Tree.shape c.args.tree.now) ws
    (g.T.Tree.Comes c.args.tree.now) (g.met.T.Tree.laws c.args.tree.now c.requires)
    c.run_laws.ensures target some code deep has
