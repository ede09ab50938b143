use Rattle.std.proofs.Common.{◌≡◌, ◌+◌, ◌<◌, suc, get_or, subst, arith}
use Rattle.gm_runs.proofs.Found.{run_rises, next_apart}
use Rattle.gm_runs.proofs.laws.runs_rise.Goals as goal

pub returns-clause-rise : goal.returns-clause-rise
returns-clause-rise c = λ runs i are less. run_rises 0 runs i (0, 0) are less

pub returns-clause-apart : goal.returns-clause-apart
returns-clause-apart c = λ runs i are less.
    let e : suc i ≡ i + 1 = omega arith in
    subst (λ k. (get_or runs i (0, 0)).1 + 1 < (get_or runs k (0, 0)).0) e
    (next_apart 0 runs i (0, 0) are (omega arith))
