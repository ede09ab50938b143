use Rattle.gm_keys.proofs.Between.{one_key}
use Rattle.gm_keys.proofs.laws.keys_of_one_identifier.Goals as goal

pub returns : goal.returns
returns c = one_key
