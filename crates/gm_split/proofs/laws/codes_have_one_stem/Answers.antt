use Rattle.std.specs.Prelude.{[]}
use Rattle.gm_split.proofs.Stems.{only_stem}
use Rattle.gm_split.proofs.laws.codes_have_one_stem.Goals as goal

pub returns : goal.returns
returns g c = λ l code within has. only_stem g.row.D (g.T.Tree.shape c.args.tree.now) []
    (g.T.Tree.Comes c.args.tree.now) (g.met.T.Tree.laws c.args.tree.now c.requires) l
    code within has
