use Rattle.gm_bounds.specs.Values.{byte_ranges_of}
use Rattle.gm_plan.proofs.Values.{few_values}
use Rattle.gm_plan.proofs.laws.value_ranges_are_few.Goals as goal

pub returns : goal.returns
returns c = λ s t target number. few_values (byte_ranges_of s number t)
    (c.byte_ranges_are_few.ensures s t number)
