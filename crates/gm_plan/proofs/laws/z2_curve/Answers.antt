use Rattle.gm_types.specs.Specification.{z2_bits_of}
use Rattle.gm_plan.specs.Covering.{CoversPoints}
use Rattle.gm_plan.proofs.Found.{by_four}
use Rattle.gm_plan.proofs.Rising.{z2_listed}
use Rattle.gm_plan.proofs.laws.z2_curve.Goals as goal

pub returns : goal.returns
returns c = λ s. by_four (CoversPoints 2) 8 16 24 31 (z2_bits_of s) (z2_listed s) c.points.ensures
    c.points-2.ensures c.points-3.ensures c.points-4.ensures
