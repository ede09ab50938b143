use Rattle.gm_strategy.proofs.Plans.{parts_served, parts_few}
use Rattle.gm_strategy.proofs.laws.parts_are_served.Goals as goal

pub returns : goal.returns
returns c = record { served = parts_served; few = parts_few }
