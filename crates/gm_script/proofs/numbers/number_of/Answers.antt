use Rattle.gm_script.proofs.Targets.{never}
use Rattle.gm_script.proofs.numbers.number_of.Goals as goal

pub returns-in-Err : goal.returns-in-Err
returns-in-Err c = never c.args.digits.now c.in-Err.field-0 c.in-Err.ensures.value.0 c.requires
