use Rattle.gm_curve.specs.Xz.{level_of, sequence_of, xz_code}
use Rattle.gm_split.proofs.Nodes.{object_is_node, object_meets}
use Rattle.gm_split.proofs.laws.objects_are_covered.Goals as goal

pub returns : goal.returns
returns g c = λ ws target low high some are_low are_high meet.
    let D = g.row.D in
    let G = g.row.G in
    let path = sequence_of G (level_of G low high) low in
    let is = c.object_is_in_reach.ensures low high are_low are_high in
    c.explained_runs_cover.ensures ws target (xz_code D G low high) path some
    (object_is_node D G low high path is) (object_meets D G ws low high path is meet)
