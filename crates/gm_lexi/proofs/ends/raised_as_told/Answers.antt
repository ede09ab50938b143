use Rattle.gm_lexi.proofs.Raising.{raised_last, all_full}
use Rattle.gm_lexi.proofs.ends.raised_as_told.Goals as goal

pub returns-clause-some : goal.returns-clause-some
returns-clause-some c = raised_last

pub returns-clause-none : goal.returns-clause-none
returns-clause-none c = all_full
