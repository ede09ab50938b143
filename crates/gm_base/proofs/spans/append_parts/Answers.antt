use Rattle.std.proofs.Common.{[]}
use Rattle.gm_base.proofs.Buffers.{joined-more, appended}
use Rattle.gm_base.proofs.spans.append_parts.Goals as goal

pub loop-part-preserved : goal.loop-part-preserved
loop-part-preserved c =
    appended c.args.bytes.now.items c.loop-part.bytes.items _ _ _ _
    c.in_ok-extend_from_slice.ensures.items c.loop-part.invariant
    (joined-more c.args.parts.now c.loop-part.part-index (record { ref_ptr = (0, 0); now = [] })
    c.loop-part-test.true)
