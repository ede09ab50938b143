use Rattle.gm_filter.proofs.Truths.{null_fails}
use Rattle.gm_filter.proofs.laws.null_passes_no_test.Goals as goal

pub returns : goal.returns
returns c = null_fails
