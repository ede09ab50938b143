use Rattle.gm_types.proofs.Spelled.{spelled_is_read, one_spelled}
use Rattle.gm_types.proofs.laws.spelled_types_are_read.Goals as goal

pub returns-clause-read : goal.returns-clause-read
returns-clause-read c = spelled_is_read

pub returns-clause-one : goal.returns-clause-one
returns-clause-one c = one_spelled
