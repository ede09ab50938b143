use Rattle.std.proofs.Common.{◌≡◌, take}
use Rattle.gm_feature.specs.declared.value.Value.{Value}
use Rattle.gm_filter.specs.Truth.{is_one_of}
use Rattle.gm_scan.specs.Literals.{has_value}
use Rattle.gm_scan.proofs.literals.Literals.of.Given as goal

abbrev pub invariant-literals : goal.invariant-literals
invariant-literals l =
    (v : Value) → has_value l.sorted v ≡ is_one_of v (take l.literal-index l.plain)
