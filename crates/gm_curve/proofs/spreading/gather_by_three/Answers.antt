use Rattle.std.proofs.Common.{◌<◌, ◌^◌, refl, lit≤}
use Rattle.gm_curve.specs.Spreading.{gathered, gather_of}
use Rattle.gm_curve.proofs.Blocks.{gather_three}
use Rattle.gm_curve.proofs.Gathered.{picked_64, gathered_below}
use Rattle.gm_curve.proofs.spreading.gather_by_three.Goals as goal

pub returns : goal.returns
unfolding gather_of
returns c =
    let few : gathered 3 32 c.args.code < 2 ^ 21 = gathered_below 3 32 c.args.code 21 c.requires in
    gather_three (gathered 3 32 c.args.code) _ _ _ _ _ few
    (picked_64 3 c.args.code 20 _ (lit≤ tt) c.ranges.code.fits few (lit≤ tt) refl) refl
    refl refl refl
