use Rattle.gm_shapes.proofs.Overlap.{area_in_bounds, edge_in_bounds}
use Rattle.gm_shapes.proofs.bounded.Bounded.of.Goals as goal

pub invariant_of-result : goal.invariant_of-result
invariant_of-result c = record {
  points_inside =
      area_in_bounds c.args.geometry.now c.bounds-extent.result c.requires
      c.bounds-extent.ensures.least.holds;
  edges_inside =
      edge_in_bounds c.args.geometry.now c.bounds-extent.result c.bounds-extent.ensures.least.holds;
}
