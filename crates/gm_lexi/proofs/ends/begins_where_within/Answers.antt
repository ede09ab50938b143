use Rattle.std.proofs.Common.{◌<◌, take, length}
use Rattle.std.proofs.lemmas.List.Elements.{recursion_from_All}
use Rattle.gm_lexi.proofs.Raising.{within}
use Rattle.gm_lexi.proofs.ends.begins_where_within.Goals as goal

pub returns : goal.returns
returns c = λ bytes other small. within bytes other
    (recursion_from_All (λ byte. byte < 256) (take (length bytes) other) small)
