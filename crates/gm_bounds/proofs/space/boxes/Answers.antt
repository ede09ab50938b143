use Rattle.gm_filter.specs.Tree.{tree}
use Rattle.gm_bounds.proofs.Keeping.{has_kept}
use Rattle.gm_bounds.proofs.space.boxes.Goals as goal

pub boxes_in-requires : goal.boxes_in-requires
boxes_in-requires c = has_kept c.args.of.now (tree c.args.filter.now) c.requires
