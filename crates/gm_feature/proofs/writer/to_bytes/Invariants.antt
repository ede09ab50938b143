use Rattle.std.proofs.Common.{◌≡◌, ◌++◌, take}
use Rattle.std.specs.Int.{w16}
use Rattle.gm_feature.specs.Writer.{string_bytes, values_bytes}
use Rattle.gm_feature.proofs.writer.to_bytes.Given as goal

abbrev pub invariant-values : goal.invariant-values
invariant-values l =
    l.bytes.items ≡ string_bytes w16 l.feature.id ++ values_bytes (take l.value-index l.value-items)
