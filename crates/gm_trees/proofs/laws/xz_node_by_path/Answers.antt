use Rattle.std.proofs.Common.{refl}
use Rattle.gm_trees.specs.Z.{z_root}
use Rattle.gm_trees.specs.Xz.{xz_shape}
use Rattle.gm_trees.proofs.Cells.{cell_by_path}
use Rattle.gm_trees.proofs.Numbering.{xz_halves}
use Rattle.gm_trees.proofs.laws.xz_node_by_path.Goals as goal

pub returns : goal.returns
returns g c = λ path members. cell_by_path (xz_shape g.row.D g.row.G) (xz_halves g.row.D g.row.G)
    g.row.D z_root path c.requires members refl refl refl refl
