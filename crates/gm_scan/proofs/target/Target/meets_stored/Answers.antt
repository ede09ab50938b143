use Rattle.std.proofs.Common.{◌≡◌, Option, Some, None, sym, ap, ◌∙◌}
use Rattle.gm_base.proofs.Options.{same_some}
use Rattle.gm_geom.specs.declared.geometry.Geometry.{Geometry}
use Rattle.gm_shapes.specs.Meeting.{do_intersect}
use Rattle.gm_shapes.specs.Segment.{do_overlap}
use Rattle.gm_scan.proofs.Apart.{fails_with}
use Rattle.gm_scan.proofs.target.Target.meets_stored.Goals as goal

pub returns-then-not-do_overlap : goal.returns-then-not-do_overlap
returns-then-not-do_overlap c = λ g is.
    let it = c.args.self.now in
    let b = c.args.stored.now.bounds in
    fails_with (do_overlap b it.bounds) (do_intersect g it.prepared)
    (it.near g b is.kept is.least.holds) (sym c.do_overlap.ensures ∙ c.if-not-do_overlap.true)

pub returns-in-Some : goal.returns-in-Some
returns-in-Some c = λ g is.
    let h = c.args.self.now.prepared in
    c.meets.ensures
    ∙ ap (λ (other : Geometry). do_intersect h other)
    (same_some c.in-Some.geometry g
    (sym c.in-Some.is ∙ c.in_ok-geometry.ensures.only g is.kept is.same))
    ∙ c.meeting_is_symmetric.ensures h g

pub returns-in-None : goal.returns-in-None
returns-in-None c = λ g is.
    let none : Option Geometry = None in
    let nothing : none ≡ Some g =
    sym c.in-None.is ∙ c.in_ok-geometry.ensures.only g is.kept is.same in
    absurd cc
