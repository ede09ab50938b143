use Rattle.std.proofs.Common.{refl}
use Rattle.gm_curve.specs.Spreading.{spread_of}
use Rattle.gm_curve.proofs.Blocks.{spread_three}
use Rattle.gm_curve.proofs.spreading.spread_by_three.Goals as goal

pub returns : goal.returns
unfolding spread_of
returns c = spread_three c.args.x c.from-x.result _ _ _ _ c.requires c.from-x.ensures refl
    refl refl refl
