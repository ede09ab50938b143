use Rattle.gm_strategy.proofs.Choosing.{choice_is_first}
use Rattle.gm_strategy.proofs.laws.choices_are_least.Goals as goal

pub returns : goal.returns
returns c = choice_is_first
