use Rattle.gm_wkt.proofs.Prints.{point_plain}
use Rattle.gm_wkt.proofs.laws.points_are_plain.Goals as goal

pub returns : goal.returns
returns c = point_plain c.has_number_bytes.ensures
