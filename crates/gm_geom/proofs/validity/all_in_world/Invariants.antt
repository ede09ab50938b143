use Rattle.std.proofs.Common.{◌≡◌, true, take}
use Rattle.std.specs.List.{list_all}
use Rattle.gm_geom.specs.Geometry.{joined}
use Rattle.gm_geom.specs.Validity.{is_in_world}
use Rattle.gm_geom.proofs.validity.all_in_world.Given as goal

abbrev pub invariant-lines : goal.invariant-lines
invariant-lines l = list_all is_in_world (joined (take l.line-index l.lines)) ≡ true
