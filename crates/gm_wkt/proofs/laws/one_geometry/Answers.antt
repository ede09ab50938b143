use Rattle.gm_wkt.proofs.Unique.{text_unique}
use Rattle.gm_wkt.proofs.laws.one_geometry.Goals as goal

pub returns : goal.returns
returns c = text_unique
