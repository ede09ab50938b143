use Rattle.std.proofs.Common.{◌≡◌, ◌++◌, take}
use Rattle.std.specs.List.{flat_map}
use Rattle.gm_feature.specs.Writer.{lines_bytes}
use Rattle.gm_feature.proofs.writer.put_areas.Given as goal

abbrev pub invariant-areas : goal.invariant-areas
invariant-areas l =
    l.bytes.items ≡ l.initial.bytes.items ++ flat_map lines_bytes (take l.rings-index l.rings-items)
