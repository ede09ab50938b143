use Rattle.gm_wkt.proofs.Values.{geometry_found, geometry_only}
use Rattle.gm_wkt.proofs.laws.geometry_is_spelled.Goals as goal

pub returns : goal.returns
returns c = λ text g. (geometry_only text g, geometry_found text g)
