use Rattle.gm_geom.proofs.Extents.{extent_is_least, extent_there}
use Rattle.gm_geom.proofs.laws.extents_are_least.Goals as goal

pub returns-clause-there : goal.returns-clause-there
returns-clause-there c = extent_there

pub returns-clause-least : goal.returns-clause-least
returns-clause-least c = extent_is_least
