use Rattle.gm_types.proofs.Outlined.{read_valid}
use Rattle.gm_types.proofs.laws.read_types_are_valid.Goals as goal

pub returns : goal.returns
returns c = read_valid
