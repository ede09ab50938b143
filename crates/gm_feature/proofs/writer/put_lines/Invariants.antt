use Rattle.std.proofs.Common.{◌≡◌, ◌++◌, take}
use Rattle.std.specs.List.{flat_map}
use Rattle.gm_feature.specs.Writer.{points_bytes}
use Rattle.gm_feature.proofs.writer.put_lines.Given as goal

abbrev pub invariant-lines : goal.invariant-lines
invariant-lines l =
    l.bytes.items ≡ l.initial.bytes.items ++ flat_map points_bytes (take l.line-index l.line-items)
