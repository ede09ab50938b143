use Rattle.gm_shapes.specs.Meeting.{has_edge_on, box_area}
use Rattle.gm_shapes.proofs.Swaps.{by_second}
use Rattle.gm_shapes.proofs.closed_box.have_common_point.Goals as goal

pub returns-then-has_inner_vertex : goal.returns-then-has_inner_vertex
returns-then-has_inner_vertex c =
    by_second c.has_inner_vertex.result
    (has_edge_on c.args.geometry.now.geometry.now (box_area c.args.closed.now.area)) _
    c.has_inner_vertex.ensures c.if-has_inner_vertex.true
