use Rattle.gm_shapes.proofs.Bounding.{meets_box}
use Rattle.gm_shapes.proofs.laws.meets_its_box.Goals as goal

pub returns : goal.returns
returns c = meets_box
