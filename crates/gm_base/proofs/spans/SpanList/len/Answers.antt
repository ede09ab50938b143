use Rattle.std.proofs.Common.{length, ap, arith}
use Rattle.std.proofs.lemmas.Grind.{common_steps}
use Rattle.gm_base.proofs.Buffers.{length-spans}
use Rattle.gm_base.proofs.spans.SpanList.len.Goals as goal

pub returns : goal.returns
returns c =
    let same = length-spans 0 c.self.inside.ends.items c.self.inside.bytes.items in
    let view = ap length c.self.view_is in
    grind (arith, common_steps, same, view)
