use Rattle.gm_trees.proofs.CellNodes.{cell_node}
use Rattle.gm_trees.proofs.laws.z_cell_by_code.Goals as goal

pub returns : goal.returns
returns g c = λ at are. cell_node g.row.D g.row.B at c.requires are
