use Rattle.std.proofs.Common.{◌≡◌, take}
use Rattle.gm_shapes.specs.Polygon as spec
use Rattle.gm_shapes.proofs.polygon.is_around.Given as goal

abbrev pub invariant-rings : goal.invariant-rings
invariant-rings l = l.odd ≡ spec.is_around l.p (take l.ring-index l.rings)
