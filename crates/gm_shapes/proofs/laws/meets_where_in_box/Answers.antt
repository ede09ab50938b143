use Rattle.gm_shapes.proofs.Overlap.{meets_exactly_in_box}
use Rattle.gm_shapes.proofs.laws.meets_where_in_box.Goals as goal

pub returns : goal.returns
returns c = meets_exactly_in_box
