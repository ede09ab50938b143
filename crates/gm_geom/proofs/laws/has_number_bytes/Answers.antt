use Rattle.gm_geom.proofs.RoundTrip.{printed_bytes}
use Rattle.gm_geom.proofs.laws.has_number_bytes.Goals as goal

pub returns : goal.returns
returns c = printed_bytes
