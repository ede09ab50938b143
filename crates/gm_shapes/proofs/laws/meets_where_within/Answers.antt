use Rattle.gm_shapes.proofs.Bounding.{within_meets}
use Rattle.gm_shapes.proofs.laws.meets_where_within.Goals as goal

pub returns : goal.returns
returns c = within_meets
