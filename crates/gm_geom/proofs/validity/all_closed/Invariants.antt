use Rattle.std.proofs.Common.{◌≡◌, true, take}
use Rattle.std.specs.List.{list_all}
use Rattle.gm_geom.specs.Geometry.{joined}
use Rattle.gm_geom.specs.Validity.{is_closed}
use Rattle.gm_geom.proofs.validity.all_closed.Given as goal

abbrev pub invariant-areas : goal.invariant-areas
invariant-areas l = list_all is_closed (joined (take l.rings-index l.rings-items)) ≡ true
