use Rattle.gm_bounds.proofs.Few.{listed_few}
use Rattle.gm_bounds.proofs.laws.byte_ranges_are_few.Goals as goal

pub returns : goal.returns
returns c = λ s t d ranges e. listed_few s t d ranges e
