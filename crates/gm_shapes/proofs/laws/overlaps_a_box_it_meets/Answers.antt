use Rattle.gm_shapes.proofs.Overlap.{overlap_box}
use Rattle.gm_shapes.proofs.laws.overlaps_a_box_it_meets.Goals as goal

pub returns : goal.returns
returns c = overlap_box
