use Rattle.std.proofs.Common.{◌≡◌, ◌++◌, map, take}
use Rattle.std.specs.String.{string_bytes}
use Rattle.gm_types.specs.Spelling.{separated, written_attribute, canonical_attributes}
use Rattle.gm_types.proofs.printer.append_attributes.Given as goal

abbrev pub invariant-loop-attribute_place : goal.invariant-loop-attribute_place
invariant-loop-attribute_place l =
    string_bytes l.out
    ≡ string_bytes l.fn.out
    ++ separated 0
    (map written_attribute (canonical_attributes l.geometry 0
    (take l.attribute_place l.attributes)))
