use Rattle.gm_shapes.proofs.Boxes.{edges_in}
use Rattle.gm_shapes.proofs.laws.holds_each_edge.Goals as goal

pub returns : goal.returns
returns c = λ geometry box. edges_in box geometry
