use Rattle.std.proofs.Common.{ap, ◌∙◌, [], ◌∷◌}
use Rattle.gm_curve.specs.Curve.{z_code}
use Rattle.gm_keys.specs.Cell.{z2_code, longitude_cell, latitude_cell}
use Rattle.gm_keys.proofs.Cells.{same_x, same_y}
use Rattle.gm_keys.proofs.cell.plane_code.Goals as goal

pub returns : goal.returns
unfolding z2_code
returns g c =
    let x = c.longitude_cell.ensures.cell
    ∙ ap (longitude_cell g.row.B) (same_x c.args.point c.requires.in_world) in
    let y = c.latitude_cell.ensures.cell
    ∙ ap (latitude_cell g.row.B) (same_y c.args.point c.requires.in_world) in
    c.encode.ensures.code ∙ (λ i. z_code 2 g.row.B (x i ∷ y i ∷ []))
