use Rattle.gm_keys.proofs.Apart.{prefixes_apart}
use Rattle.gm_keys.proofs.laws.prefixes_tell_indexes_apart.Goals as goal

pub returns : goal.returns
returns c = prefixes_apart c.big_bytes_in_order.ensures.apart
