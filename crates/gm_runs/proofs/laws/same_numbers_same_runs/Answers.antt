use Rattle.gm_runs.proofs.Maximal.{same_runs}
use Rattle.gm_runs.proofs.laws.same_numbers_same_runs.Goals as goal

pub returns : goal.returns
returns c = λ one two runs more same. same_runs 0 0 one two runs more (λ n. (same n).0)
    (λ n. (same n).1)
