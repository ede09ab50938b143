use Rattle.gm_runs.proofs.Maximal.{maximal}
use Rattle.gm_runs.proofs.laws.tests_have_maximal_runs.Goals as goal

pub returns : goal.returns
returns c = maximal
