use Rattle.std.proofs.Common.{refl}
use Rattle.gm_trees.specs.Z.{z_root, z_shape}
use Rattle.gm_trees.proofs.Cells.{cell_by_path}
use Rattle.gm_trees.proofs.Spelling.{z_halves}
use Rattle.gm_trees.proofs.laws.z_node_by_path.Goals as goal

pub returns : goal.returns
returns g c = λ path members. cell_by_path (z_shape g.row.D g.row.B) (z_halves g.row.D g.row.B)
    g.row.D z_root path c.requires members refl refl refl refl
