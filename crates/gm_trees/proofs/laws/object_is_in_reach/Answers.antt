use Rattle.gm_trees.proofs.Objects.{object_node}
use Rattle.gm_trees.proofs.laws.object_is_in_reach.Goals as goal

pub returns : goal.returns
returns g c = λ low high are_low are_high. object_node g.row.D g.row.G low high are_low
    are_high c.requires
