use Rattle.std.proofs.Common.{◌≡◌, take, length, min, ◌-◌, ◌^◌}
use Rattle.gm_geom.specs.Geometry.{joined}
use Rattle.gm_geom.proofs.validity.count_of_areas.Given as goal

abbrev pub invariant-areas : goal.invariant-areas
invariant-areas l =
    l.count ≡ min (length (joined (joined (take l.rings-index l.rings-items)))) (2 ^ 64 - 1)
