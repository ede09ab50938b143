use Rattle.std.proofs.Common.{◌≡◌, ◌++◌, length, map}
use Rattle.gm_types.specs.Parts.{parts_of}
use Rattle.gm_types.specs.Reader.{is_starred}
use Rattle.gm_types.proofs.attribute_reader.read_stars.Given as goal

abbrev pub invariant-parts : goal.invariant-parts
invariant-parts l =
    map is_starred (parts_of 44 l.text) ≡ l.stars.items ++ map is_starred (parts_of 44 l.rest)

abbrev pub decreases-parts : goal.decreases-parts
decreases-parts l = length l.rest
