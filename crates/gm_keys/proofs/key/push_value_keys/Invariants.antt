use Rattle.std.proofs.Common.{◌≡◌, ◌++◌, flat_map}
use Rattle.gm_types.specs.Index.{attribute_indexes}
use Rattle.gm_keys.specs.Key.{keys_in}
use Rattle.gm_keys.proofs.key.push_value_keys.Given as goal

abbrev pub invariant-attributes : goal.invariant-attributes
invariant-attributes l =
    l.keys.items ≡ l.initial.keys.items
    ++ flat_map (λ kind. keys_in l.of kind l.feature) (attribute_indexes 0 l.attribute)
