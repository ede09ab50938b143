use Rattle.std.proofs.Common.{arith}
use Rattle.gm_feature.proofs.Leaps.{no_value, null_value, present_value}
use Rattle.gm_feature.proofs.skips.skip_value.Goals as goal

pub returns-in-empty : goal.returns-in-empty
returns-in-empty c =
    λ x e. absurd (no_value c.args.kind c.args.bytes.now x (omega (arith, c.in-empty.len_below)) e)

pub returns-then-presence-eq0 : goal.returns-then-presence-eq0
returns-then-presence-eq0 c =
    λ x e. (null_value c.args.kind c.args.bytes.now x (omega (arith, c.in-len1-up.len_at_least))
    c.if-presence-eq0.true e).1

pub returns-else-presence-eq0 : goal.returns-else-presence-eq0
returns-else-presence-eq0 c =
    λ x e. c.skip_content.ensures x
    (present_value c.args.kind c.args.bytes.now x (omega (arith, c.in-len1-up.len_at_least))
    c.if-presence-eq0.false e)
