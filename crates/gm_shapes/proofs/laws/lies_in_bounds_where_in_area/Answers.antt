use Rattle.gm_shapes.proofs.Overlap.{point_of_area}
use Rattle.gm_shapes.proofs.laws.lies_in_bounds_where_in_area.Goals as goal

pub returns : goal.returns
returns c = point_of_area
