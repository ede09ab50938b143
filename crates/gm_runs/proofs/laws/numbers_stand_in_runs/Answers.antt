use Rattle.gm_runs.proofs.Found.{has_from, run_of}
use Rattle.gm_runs.proofs.laws.numbers_stand_in_runs.Goals as goal

pub returns : goal.returns
returns c = λ runs
    code. (
      (λ has. run_of runs code (0, 0) has),
      (λ at. has_from runs code at.0 (0, 0) at.1 at.2 at.3),
    )
