use Rattle.std.proofs.Common.{arith}
use Rattle.gm_feature.proofs.Leaps.{no_geometry, tagged_body}
use Rattle.gm_feature.proofs.skips.skip_geometry.Goals as goal

pub returns-in-empty : goal.returns-in-empty
returns-in-empty c =
    λ shape x e. absurd
    (no_geometry shape c.args.bytes.now x (omega (arith, c.in-empty.len_below)) e)

pub returns-in-len1-up : goal.returns-in-len1-up
returns-in-len1-up c =
    λ shape x e. c.skip_body.ensures x
    (tagged_body shape c.args.bytes.now x (omega (arith, c.in-len1-up.len_at_least)) e).0
