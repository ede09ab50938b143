use Rattle.std.proofs.Common.{[], ◌∷◌, refl, arith}
use Rattle.gm_geom.specs.declared.geometry.Geometry.TheVariants as geo
use Rattle.gm_geom.specs.Geometry.{joined}
use Rattle.gm_feature.specs.Reader.{point_from, points_from, lines_from, areas_from, body_from}
use Rattle.gm_feature.proofs.Leaps.{body_1, body_2, body_3, body_4, body_5, body_6}
use Rattle.gm_feature.proofs.Widening.{spans_from}
use Rattle.gm_feature.proofs.spans.span_at.Goals as goal

pub returns-in-1 : goal.returns-in-1
returns-in-1 c =
    spans_from (λ p. geo.Point p) (λ p. p ∷ []) (λ p. refl) c.args.tag c.args.bytes.now
    (point_from c.args.bytes.now) c.by_point.result.0 c.by_point.result.1.now
    (body_1 c.args.tag c.args.bytes.now c.in-1.is) c.by_point.ensures

pub returns-in-2 : goal.returns-in-2
returns-in-2 c =
    spans_from (λ p. geo.Line p) (λ p. p) (λ p. refl) c.args.tag c.args.bytes.now
    (points_from c.args.bytes.now) c.by_points.result.0 c.by_points.result.1.now
    (body_2 c.args.tag c.args.bytes.now c.in-2.is) c.by_points.ensures

pub returns-in-3 : goal.returns-in-3
returns-in-3 c =
    spans_from (λ p. geo.Area p) (λ p. joined p) (λ p. refl) c.args.tag c.args.bytes.now
    (lines_from c.args.bytes.now) c.by_lines.result.0 c.by_lines.result.1.now
    (body_3 c.args.tag c.args.bytes.now c.in-3.is) c.by_lines.ensures

pub returns-in-4 : goal.returns-in-4
returns-in-4 c =
    spans_from (λ p. geo.ManyPoints p) (λ p. p) (λ p. refl) c.args.tag c.args.bytes.now
    (points_from c.args.bytes.now) c.by_points-in-4.result.0 c.by_points-in-4.result.1.now
    (body_4 c.args.tag c.args.bytes.now c.in-4.is) c.by_points-in-4.ensures

pub returns-in-5 : goal.returns-in-5
returns-in-5 c =
    spans_from (λ p. geo.ManyLines p) (λ p. joined p) (λ p. refl) c.args.tag c.args.bytes.now
    (lines_from c.args.bytes.now) c.by_lines-in-5.result.0 c.by_lines-in-5.result.1.now
    (body_5 c.args.tag c.args.bytes.now c.in-5.is) c.by_lines-in-5.ensures

pub returns-in-6 : goal.returns-in-6
returns-in-6 c =
    spans_from (λ p. geo.ManyAreas p) (λ p. joined (joined p)) (λ p. refl) c.args.tag
    c.args.bytes.now (areas_from c.args.bytes.now) c.by_areas.result.0 c.by_areas.result.1.now
    (body_6 c.args.tag c.args.bytes.now c.in-6.is) c.by_areas.ensures

pub returns-in_default : goal.returns-in_default
unfolding body_from
returns-in_default c = λ x e. absurd (grind (arith, e, c.in_default))
