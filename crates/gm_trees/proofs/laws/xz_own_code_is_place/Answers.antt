use Rattle.std.proofs.Common.{sym, ap, ◌∙◌}
use Rattle.std.specs.Prelude.{Some}
use Rattle.gm_trees.proofs.Numbering.{first_from_root, place_is_in}
use Rattle.gm_trees.proofs.laws.xz_own_code_is_place.Goals as goal

pub returns : goal.returns
returns g c = λ path short members. ap (λ k. Some k)
    (first_from_root g.row.D g.row.G path short
    ∙ sym (place_is_in g.row.D g.row.G path short members))
