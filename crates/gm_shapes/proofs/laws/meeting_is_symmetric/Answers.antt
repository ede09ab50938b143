use Rattle.gm_shapes.proofs.Swaps.{intersect_swap}
use Rattle.gm_shapes.proofs.laws.meeting_is_symmetric.Goals as goal

pub returns : goal.returns
returns c = intersect_swap
