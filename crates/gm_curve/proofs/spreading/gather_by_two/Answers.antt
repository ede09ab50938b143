use Rattle.std.proofs.Common.{◌<◌, ◌^◌, refl, lit≤}
use Rattle.gm_curve.specs.Spreading.{gathered, gather_of}
use Rattle.gm_curve.proofs.Blocks.{gather_two}
use Rattle.gm_curve.proofs.Gathered.{picked_64, gathered-lt}
use Rattle.gm_curve.proofs.spreading.gather_by_two.Goals as goal

pub returns : goal.returns
unfolding gather_of
returns c =
    let few : gathered 2 32 c.args.code < 2 ^ 32 = gathered-lt 2 32 c.args.code in
    gather_two (gathered 2 32 c.args.code) _ _ _ _ _ few
    (picked_64 2 c.args.code 31 _ (lit≤ tt) c.ranges.code.fits few (lit≤ tt) refl) refl
    refl refl refl
