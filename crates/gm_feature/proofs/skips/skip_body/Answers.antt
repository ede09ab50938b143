use Rattle.std.proofs.Common.{◌∙◌, arith}
use Rattle.gm_geom.specs.declared.geometry.Geometry.TheVariants as geo
use Rattle.gm_feature.specs.Reader.{point_from, points_from, lines_from, areas_from, body_from}
use Rattle.gm_feature.proofs.Leaps.{point_sized, leaps_from, body_1, body_2, body_3, body_4, body_5}
use Rattle.gm_feature.proofs.Leaps.{body_6}
use Rattle.gm_feature.proofs.skips.skip_body.Goals as goal

pub returns-in-1 : goal.returns-in-1
returns-in-1 c =
    leaps_from (λ p. geo.Point p) c.args.tag c.args.bytes.now (point_from c.args.bytes.now)
    c.behind.result.now (body_1 c.args.tag c.args.bytes.now c.in-1.is)
    (λ y e. let s = point_sized c.args.bytes.now y e in c.behind.ensures s.0 ∙ s.1)

pub returns-in-2 : goal.returns-in-2
returns-in-2 c =
    leaps_from (λ p. geo.Line p) c.args.tag c.args.bytes.now (points_from c.args.bytes.now)
    c.skip_points.result.now (body_2 c.args.tag c.args.bytes.now c.in-2.is)
    c.skip_points.ensures

pub returns-in-3 : goal.returns-in-3
returns-in-3 c =
    leaps_from (λ p. geo.Area p) c.args.tag c.args.bytes.now (lines_from c.args.bytes.now)
    c.skip_lines.result.now (body_3 c.args.tag c.args.bytes.now c.in-3.is) c.skip_lines.ensures

pub returns-in-4 : goal.returns-in-4
returns-in-4 c =
    leaps_from (λ p. geo.ManyPoints p) c.args.tag c.args.bytes.now (points_from c.args.bytes.now)
    c.skip_points-in-4.result.now (body_4 c.args.tag c.args.bytes.now c.in-4.is)
    c.skip_points-in-4.ensures

pub returns-in-5 : goal.returns-in-5
returns-in-5 c =
    leaps_from (λ p. geo.ManyLines p) c.args.tag c.args.bytes.now (lines_from c.args.bytes.now)
    c.skip_lines-in-5.result.now (body_5 c.args.tag c.args.bytes.now c.in-5.is)
    c.skip_lines-in-5.ensures

pub returns-in-6 : goal.returns-in-6
returns-in-6 c =
    leaps_from (λ p. geo.ManyAreas p) c.args.tag c.args.bytes.now (areas_from c.args.bytes.now)
    c.skip_areas.result.now (body_6 c.args.tag c.args.bytes.now c.in-6.is) c.skip_areas.ensures

pub returns-in_default : goal.returns-in_default
unfolding body_from
returns-in_default c = λ x e. absurd (grind (arith, e, c.in_default))
