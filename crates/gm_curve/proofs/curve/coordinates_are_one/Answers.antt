use Rattle.gm_curve.proofs.Interleaved.{same_coordinates}
use Rattle.gm_curve.proofs.curve.coordinates_are_one.Goals as goal

pub returns : goal.returns
returns g c = same_coordinates g.row.D g.row.B
