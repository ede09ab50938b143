use Rattle.std.proofs.Common.{ap, sym, ◌∙◌}
use Rattle.std.proofs.lemmas.Result.{err_from_is_err_and}
use Rattle.gm_geom.specs.declared.geometry.Geometry.TheVariants as geo
use Rattle.gm_wkt.proofs.Keywords.{body_point, body_line, body_area, body_points, body_lines}
use Rattle.gm_wkt.proofs.Keywords.{body_areas}
use Rattle.gm_wkt.proofs.reader.read_body.Goals as goal

pub returns-in_err-read_lone-in-Point-clause-only : goal.returns-in_err-read_lone-in-Point-clause-only
returns-in_err-read_lone-in-Point-clause-only c = λ h e s.
    let b = body_point c.args.body.now h (e ∙ c.in-Point.is) s in
    let p = err_from_is_err_and c.from_residual.result c.from_residual.ensures.1 in
    rw (p.1, p.2) (c.in_err-read_lone-in-Point.ensures.only b.0 b.1)

pub returns-in_ok-read_lone-in-Point-clause-only : goal.returns-in_ok-read_lone-in-Point-clause-only
returns-in_ok-read_lone-in-Point-clause-only c = λ h e s.
    let b = body_point c.args.body.now h (e ∙ c.in-Point.is) s in
    ap (λ x. geo.Point x) (c.in_ok-read_lone-in-Point.ensures.only b.0 b.1) ∙ sym b.2

pub returns-in_err-read_whole-in-Line-clause-only : goal.returns-in_err-read_whole-in-Line-clause-only
returns-in_err-read_whole-in-Line-clause-only c = λ h e s.
    let b = body_line c.args.body.now h (e ∙ c.in-Line.is) s in
    let p = err_from_is_err_and c.from_residual-in_err-read_whole-in-Line.result
    c.from_residual-in_err-read_whole-in-Line.ensures.1 in
    rw (p.1, p.2) (c.in_err-read_whole-in-Line.ensures.only b.0 b.1)

pub returns-in_ok-read_whole-in-Line-clause-only : goal.returns-in_ok-read_whole-in-Line-clause-only
returns-in_ok-read_whole-in-Line-clause-only c = λ h e s.
    let b = body_line c.args.body.now h (e ∙ c.in-Line.is) s in
    ap (λ x. geo.Line x) (c.in_ok-read_whole-in-Line.ensures.only b.0 b.1) ∙ sym b.2

pub returns-in_err-read_whole-in-Area-clause-only : goal.returns-in_err-read_whole-in-Area-clause-only
returns-in_err-read_whole-in-Area-clause-only c = λ h e s.
    let b = body_area c.args.body.now h (e ∙ c.in-Area.is) s in
    let p = err_from_is_err_and c.from_residual-in_err-read_whole-in-Area.result
    c.from_residual-in_err-read_whole-in-Area.ensures.1 in
    rw (p.1, p.2) (c.in_err-read_whole-in-Area.ensures.only b.0 b.1)

pub returns-in_ok-read_whole-in-Area-clause-only : goal.returns-in_ok-read_whole-in-Area-clause-only
returns-in_ok-read_whole-in-Area-clause-only c = λ h e s.
    let b = body_area c.args.body.now h (e ∙ c.in-Area.is) s in
    ap (λ x. geo.Area x) (c.in_ok-read_whole-in-Area.ensures.only b.0 b.1) ∙ sym b.2

pub returns-in_err-read_whole-in-ManyPoints-clause-only : goal.returns-in_err-read_whole-in-ManyPoints-clause-only
returns-in_err-read_whole-in-ManyPoints-clause-only c = λ h e s.
    let b = body_points c.args.body.now h (e ∙ c.in-ManyPoints.is) s in
    let p = err_from_is_err_and c.from_residual-in_err-read_whole-in-ManyPoints.result
    c.from_residual-in_err-read_whole-in-ManyPoints.ensures.1 in
    rw (p.1, p.2) (c.in_err-read_whole-in-ManyPoints.ensures.only b.0 b.1)

pub returns-in_ok-read_whole-in-ManyPoints-clause-only : goal.returns-in_ok-read_whole-in-ManyPoints-clause-only
returns-in_ok-read_whole-in-ManyPoints-clause-only c = λ h e s.
    let b = body_points c.args.body.now h (e ∙ c.in-ManyPoints.is) s in
    ap (λ x. geo.ManyPoints x) (c.in_ok-read_whole-in-ManyPoints.ensures.only b.0 b.1) ∙ sym b.2

pub returns-in_err-read_whole-in-ManyLines-clause-only : goal.returns-in_err-read_whole-in-ManyLines-clause-only
returns-in_err-read_whole-in-ManyLines-clause-only c = λ h e s.
    let b = body_lines c.args.body.now h (e ∙ c.in-ManyLines.is) s in
    let p = err_from_is_err_and c.from_residual-in_err-read_whole-in-ManyLines.result
    c.from_residual-in_err-read_whole-in-ManyLines.ensures.1 in
    rw (p.1, p.2) (c.in_err-read_whole-in-ManyLines.ensures.only b.0 b.1)

pub returns-in_ok-read_whole-in-ManyLines-clause-only : goal.returns-in_ok-read_whole-in-ManyLines-clause-only
returns-in_ok-read_whole-in-ManyLines-clause-only c = λ h e s.
    let b = body_lines c.args.body.now h (e ∙ c.in-ManyLines.is) s in
    ap (λ x. geo.ManyLines x) (c.in_ok-read_whole-in-ManyLines.ensures.only b.0 b.1) ∙ sym b.2

pub returns-in_err-read_whole-in-ManyAreas-clause-only : goal.returns-in_err-read_whole-in-ManyAreas-clause-only
returns-in_err-read_whole-in-ManyAreas-clause-only c = λ h e s.
    let b = body_areas c.args.body.now h (e ∙ c.in-ManyAreas.is) s in
    let p = err_from_is_err_and c.from_residual-in_err-read_whole-in-ManyAreas.result
    c.from_residual-in_err-read_whole-in-ManyAreas.ensures.1 in
    rw (p.1, p.2) (c.in_err-read_whole-in-ManyAreas.ensures.only b.0 b.1)

pub returns-in_ok-read_whole-in-ManyAreas-clause-only : goal.returns-in_ok-read_whole-in-ManyAreas-clause-only
returns-in_ok-read_whole-in-ManyAreas-clause-only c = λ h e s.
    let b = body_areas c.args.body.now h (e ∙ c.in-ManyAreas.is) s in
    ap (λ x. geo.ManyAreas x) (c.in_ok-read_whole-in-ManyAreas.ensures.only b.0 b.1) ∙ sym b.2
