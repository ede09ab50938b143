use Rattle.std.proofs.Common.{◌≡◌, ◌++◌, take}
use Rattle.std.specs.List.{flat_map}
use Rattle.gm_feature.specs.Writer.{point_bytes}
use Rattle.gm_feature.proofs.writer.put_points.Given as goal

abbrev pub invariant-points : goal.invariant-points
invariant-points l =
    l.bytes.items ≡ l.initial.bytes.items ++ flat_map point_bytes (take l.point-index l.point-items)
