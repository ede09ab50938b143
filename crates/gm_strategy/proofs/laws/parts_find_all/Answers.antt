use Rattle.gm_strategy.proofs.Plans.{parts_decide}
use Rattle.gm_strategy.proofs.laws.parts_find_all.Goals as goal

pub returns : goal.returns
returns c = parts_decide c.members_decide.ensures.or
