use Rattle.std.proofs.Common.{◌∙◌}
use Rattle.gm_geom.proofs.Numbers.{raised_more, raised_over}
use Rattle.gm_geom.proofs.number.raised.Goals as goal

pub returns-then-number-gt-FURTHEST : goal.returns-then-number-gt-FURTHEST
returns-then-number-gt-FURTHEST c =
    raised_over _ _ _ _ c.places.invariant c.if-number-gt-FURTHEST.true

pub places-preserved : goal.places-preserved
places-preserved c =
    raised_more c.places.number c.places.places c.places-test.true ∙ c.places.invariant
