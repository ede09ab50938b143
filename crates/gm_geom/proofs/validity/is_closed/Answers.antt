use Rattle.std.proofs.Common.{◌∙◌}
use Rattle.gm_geom.proofs.Lists.{closed_by_ends}
use Rattle.gm_geom.proofs.validity.is_closed.Goals as goal

pub returns-then-ring-ge-RING_LEAST : goal.returns-then-ring-ge-RING_LEAST
returns-then-ring-ge-RING_LEAST c =
    c.is_same.ensures ∙ closed_by_ends c.args.ring.now _ c.if-ring-ge-RING_LEAST.true
