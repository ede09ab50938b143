use Rattle.std.proofs.Common.{◌≡◌, ap, ◌∙◌, arith}
use Rattle.std.proofs.lemmas.Int.{ints}
use mir.Val.{to_z, of_z}
use Rattle.std.specs.Int.{w32}
use Rattle.gm_base.proofs.Booleans.{fails_with}
use Rattle.gm_geom.specs.declared.point.Box2.{Box2}
use Rattle.gm_shapes.specs.Segment.{box_of, do_overlap, do_meet}
use Rattle.gm_shapes.specs.Edge.{meets_edge_of}
use Rattle.gm_prepared.proofs.Between.{between_meeting}
use Rattle.gm_prepared.proofs.Numbered.{any_numbered}
use Rattle.gm_prepared.proofs.Meets.{between_same}
use Rattle.gm_prepared.proofs.prepared.PreparedShape.meets.Goals as goal

pub any_between-requires : goal.any_between-requires
any_between-requires c =
    let lower : c.box_of-extent.result.low.y ≡ (box_of c.args.edge).low.y =
    ap (λ (b : Box2). b.low.y) c.box_of-extent.ensures in
    let higher : c.box_of-extent.result.high.y ≡ (box_of c.args.edge).high.y =
    ap (λ (b : Box2). b.high.y) c.box_of-extent.ensures in
    let low : to_z w32 (of_z w32 c.box_of-extent.result.low.y) ≡ c.box_of-extent.result.low.y =
    omega (arith, ints) in
    let high : to_z w32 (of_z w32 c.box_of-extent.result.high.y) ≡ c.box_of-extent.result.high.y =
    omega (arith, ints) in
    λ e meets. between_same (box_of c.args.edge).low.y (box_of c.args.edge).high.y _ _ e
    (low ∙ lower) (high ∙ higher) (between_meeting c.args.edge e meets)

pub returns-then-do_overlap : goal.returns-then-do_overlap
returns-then-do_overlap c =
    c.any_between.ensures ∙ any_numbered (do_meet c.args.edge) c.args.self.now

pub returns-else-do_overlap : goal.returns-else-do_overlap
returns-else-do_overlap c =
    fails_with (do_overlap (box_of c.args.edge) c.self.inside.bounds)
    (meets_edge_of c.self.inside.geometry c.args.edge) c.do_overlap.result
    (c.overlaps_where_meeting_an_edge.ensures c.self.inside.geometry c.self.inside.bounds
    c.args.edge c.self.invariant.held)
    (c.do_overlap.ensures ∙ ap (λ b. do_overlap b c.self.inside.bounds) c.box_of-extent.ensures)
    c.if-do_overlap.false
    ∙ ap (λ g. meets_edge_of g c.args.edge) c.self.view_is
