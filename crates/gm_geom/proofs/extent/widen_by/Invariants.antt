use Rattle.std.proofs.Common.{◌≡◌, fold, take}
use Rattle.gm_geom.specs.Extent.{widened}
use Rattle.gm_geom.proofs.extent.widen_by.Given as goal

abbrev pub invariant-points : goal.invariant-points
invariant-points l = l.extent ≡ fold widened l.initial.extent (take l.point-index l.points)
