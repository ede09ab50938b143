use Rattle.std.proofs.Common.{◌≡◌, Some, sym, ap, ◌∙◌}
use Rattle.gm_geom.specs.Extent.{extent_of}
use Rattle.gm_geom.specs.Geometry.{points_of}
use Rattle.gm_prepared.proofs.prepared.Prepared.bounds.Goals as goal

pub returns-clause-least : goal.returns-clause-least
returns-clause-least c =
    let extent : extent_of (points_of c.args.self.now) ≡ Some c.self.inside.bounds =
    sym (ap (λ g. extent_of (points_of g)) c.self.view_is) ∙ c.self.invariant.extent in
    c.extents_are_least.ensures.least (points_of c.args.self.now) c.self.inside.bounds extent

pub returns-clause-extent : goal.returns-clause-extent
returns-clause-extent c =
    sym (ap (λ g. extent_of (points_of g)) c.self.view_is) ∙ c.self.invariant.extent
