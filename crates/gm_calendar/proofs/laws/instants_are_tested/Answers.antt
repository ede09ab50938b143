use Rattle.gm_calendar.proofs.Spelled.{instant_is_tested}
use Rattle.gm_calendar.proofs.laws.instants_are_tested.Goals as goal

pub returns : goal.returns
returns c = instant_is_tested
