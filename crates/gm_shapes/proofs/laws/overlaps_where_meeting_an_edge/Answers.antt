use Rattle.gm_shapes.proofs.Overlap.{edge_in_bounds}
use Rattle.gm_shapes.proofs.laws.overlaps_where_meeting_an_edge.Goals as goal

pub returns : goal.returns
returns c = λ geometry b s held. edge_in_bounds geometry b held s
