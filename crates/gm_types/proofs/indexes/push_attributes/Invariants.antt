use Rattle.std.proofs.Common.{◌≡◌, ◌++◌}
use Rattle.std.specs.Prelude.{filter}
use Rattle.gm_types.specs.Index.{has_index, attribute_indexes}
use Rattle.gm_types.proofs.indexes.push_attributes.Given as goal

abbrev pub invariant-loop-number : goal.invariant-loop-number
invariant-loop-number l =
    l.list ≡ l.fn.list ++ filter (has_index l.of) (attribute_indexes 0 l.number)
