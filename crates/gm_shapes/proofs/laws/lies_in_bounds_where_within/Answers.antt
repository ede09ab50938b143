use Rattle.gm_shapes.proofs.Overlap.{within_in_bounds}
use Rattle.gm_shapes.proofs.laws.lies_in_bounds_where_within.Goals as goal

pub returns : goal.returns
returns c = within_in_bounds
