use Rattle.gm_shapes.proofs.Overlap.{point_in_bounds}
use Rattle.gm_shapes.proofs.laws.lies_in_bounds_where_meeting.Goals as goal

pub returns : goal.returns
returns c = point_in_bounds
