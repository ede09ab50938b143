use Rattle.gm_ecql.proofs.Wholes.{whole_ok, whole_err}
use Rattle.gm_ecql.proofs.judging.whole_of.Goals as goal

pub returns-in-Ok : goal.returns-in-Ok
returns-in-Ok c = whole_ok c.args.number.now c.in-Ok.value c.in-Ok.ensures.value.0

pub returns-in-Err : goal.returns-in-Err
returns-in-Err c = whole_err c.args.number.now c.in-Err.ensures.value.0
