use Rattle.gm_curve.specs.Curve.{z_code}
use Rattle.gm_curve.specs.Xz.{sequence_of}
use Rattle.gm_split.proofs.Nodes.{cell_is_node, cell_meets}
use Rattle.gm_split.proofs.laws.points_are_covered.Goals as goal

pub returns : goal.returns
returns g c = λ ws target at some are meet.
    let D = g.row.D in
    let B = g.row.B in
    let path = sequence_of B B at in
    let is = c.z_cell_by_code.ensures at are in
    c.explained_runs_cover.ensures ws target (z_code D B at) path some (cell_is_node D B at path is)
    (cell_meets D B ws at path is meet)
