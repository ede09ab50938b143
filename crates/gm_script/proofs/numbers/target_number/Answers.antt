use Rattle.gm_script.proofs.Targets.{no_text}
use Rattle.gm_script.proofs.numbers.target_number.Goals as goal

pub returns-in-Err : goal.returns-in-Err
returns-in-Err c = no_text c.args.digits.now c.in-Err.ensures.cases.0
