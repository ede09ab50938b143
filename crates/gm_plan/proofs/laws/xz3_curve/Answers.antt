use Rattle.gm_types.specs.Specification.{precision_of}
use Rattle.gm_plan.specs.Covering.{CoversObjects}
use Rattle.gm_plan.proofs.Found.{by_four}
use Rattle.gm_plan.proofs.Rising.{precision_listed}
use Rattle.gm_plan.proofs.laws.xz3_curve.Goals as goal

pub returns : goal.returns
returns c = λ s. by_four (CoversObjects 3) 4 8 12 16 (precision_of s) (precision_listed s)
    c.objects.ensures c.objects-2.ensures c.objects-3.ensures c.objects-4.ensures
