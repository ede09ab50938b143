use Rattle.std.proofs.Common.{◌∙◌}
use Rattle.gm_shapes.proofs.Overlap.{area_of_box}
use Rattle.gm_shapes.proofs.closed_box.ClosedBox.of.Goals as goal

pub invariant_of-result-clause-points_inside : goal.invariant_of-result-clause-points_inside
invariant_of-result-clause-points_inside c =
    λ p inside. area_of_box p c.args.area c.requires.across c.requires.along ∙ inside
