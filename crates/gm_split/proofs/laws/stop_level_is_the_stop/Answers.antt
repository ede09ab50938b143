use Rattle.gm_split.proofs.Promised.{stops}
use Rattle.gm_split.proofs.laws.stop_level_is_the_stop.Goals as goal

pub returns : goal.returns
returns g c = λ ws target some. stops g.row.D (g.T.Tree.shape c.args.tree.now) ws
    (g.T.Tree.Comes c.args.tree.now) (g.met.T.Tree.laws c.args.tree.now c.requires)
    c.run_laws.ensures target some
