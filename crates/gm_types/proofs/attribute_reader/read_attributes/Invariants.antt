use Rattle.std.proofs.Common.{◌≡◌, length}
use Rattle.gm_types.specs.Parts.{parts_of}
use Rattle.gm_types.specs.Reader.{read_all, attribute_of}
use Rattle.gm_types.proofs.ReadParts.{appended}
use Rattle.gm_types.proofs.attribute_reader.read_attributes.Given as goal

abbrev pub invariant-parts : goal.invariant-parts
invariant-parts l =
    read_all attribute_of (parts_of 44 l.text)
    ≡ appended l.attributes (read_all attribute_of (parts_of 44 l.rest))

abbrev pub decreases-parts : goal.decreases-parts
decreases-parts l = length l.rest
