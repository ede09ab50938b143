use Rattle.std.proofs.Common.{◌<◌, take, length}
use Rattle.std.proofs.lemmas.List.Elements.{recursion_from_All}
use Rattle.gm_lexi.proofs.Raising.{low_by_front, high_by_front}
use Rattle.gm_lexi.proofs.ends.fronts_decide.Goals as goal

pub returns-clause-low : goal.returns-clause-low
returns-clause-low c = low_by_front

pub returns-clause-high : goal.returns-clause-high
returns-clause-high c =
    λ high other small. high_by_front high other
    (recursion_from_All (λ byte. byte < 256) (take (length high) other) small)
