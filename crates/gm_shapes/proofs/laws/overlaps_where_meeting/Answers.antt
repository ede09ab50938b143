use Rattle.gm_shapes.proofs.Overlap.{overlap}
use Rattle.gm_shapes.proofs.laws.overlaps_where_meeting.Goals as goal

pub returns : goal.returns
returns c = overlap
