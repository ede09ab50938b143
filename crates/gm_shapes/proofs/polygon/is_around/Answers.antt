use Rattle.std.proofs.Common.{◌∙◌}
use Rattle.gm_shapes.proofs.Walks.{rings_crossed}
use Rattle.gm_shapes.proofs.polygon.is_around.Goals as goal

pub rings-preserved : goal.rings-preserved
rings-preserved c =
    rings_crossed c.args.p c.args.rings.now c.rings.ring-index c.ring-item.result _ c.rings.odd _
    c.rings-test.true
    (c.as_slice.ensures ∙ c.ring-item.is) c.rings.invariant c.crosses_oddly-odd.ensures
