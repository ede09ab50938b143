use Rattle.std.proofs.Common.{◌≡◌, fold, take}
use Rattle.gm_geom.specs.Extent.{widened}
use Rattle.gm_geom.specs.Geometry.{joined}
use Rattle.gm_geom.proofs.extent.widen_by_all.Given as goal

abbrev pub invariant-lines : goal.invariant-lines
invariant-lines l = l.extent ≡ fold widened l.initial.extent (joined (take l.line-index l.lines))
