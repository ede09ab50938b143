use Rattle.gm_geom.proofs.RoundTrip.{reads_again}
use Rattle.gm_geom.proofs.laws.reads_back.Goals as goal

pub returns : goal.returns
returns c = reads_again
