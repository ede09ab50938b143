use Rattle.std.proofs.Common.{◌∙◌, ap}
use Rattle.gm_shapes.specs.Polygon.{crosses}
use Rattle.gm_prepared.proofs.Held.{held_more}
use Rattle.gm_prepared.proofs.area.is_held.Goals as goal

pub edges-preserved : goal.edges-preserved
edges-preserved c =
    held_more c.args.p c.args.edges.now c.edges.edge-index _ c.edges.area c.edges.odd _
    c.is_settled.result c.is_crossed-odd.result c.edges-test.true
    c.edges.invariant c.is_settled.ensures c.if-is_settled.false
    (c.is_crossed-odd.ensures ∙ ap (crosses c.args.p) c.segment.ensures)
