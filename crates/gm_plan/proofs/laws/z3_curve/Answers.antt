use Rattle.gm_types.specs.Specification.{z3_bits_of}
use Rattle.gm_plan.specs.Covering.{CoversPoints}
use Rattle.gm_plan.proofs.Found.{by_four}
use Rattle.gm_plan.proofs.Rising.{z3_listed}
use Rattle.gm_plan.proofs.laws.z3_curve.Goals as goal

pub returns : goal.returns
returns c = λ s. by_four (CoversPoints 3) 8 12 16 21 (z3_bits_of s) (z3_listed s) c.points.ensures
    c.points-2.ensures c.points-3.ensures c.points-4.ensures
