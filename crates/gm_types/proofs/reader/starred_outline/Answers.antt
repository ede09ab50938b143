use Rattle.std.proofs.Common.{◌∙◌, ap}
use Rattle.std.proofs.lemmas.Result.{err_from_is_err_and}
use Rattle.gm_types.specs.Reader.{stars_fit, geometry_place}
use Rattle.gm_types.proofs.Outlined.{starred, unstarred, named_memory}
use Rattle.gm_types.proofs.reader.starred_outline.Goals as goal

pub returns-then-not-stars_fit : goal.returns-then-not-stars_fit
returns-then-not-stars_fit c =
    unstarred c.args.name.now c.args.number c.args.stars.now c.args.attributes c.args.user_data
    (c.if-not-stars_fit.ensures ∙ ap (stars_fit c.args.stars.now) c.as_slice.ensures)

pub returns-in_err-name : goal.returns-in_err-name
returns-in_err-name c =
    let p = err_from_is_err_and c.from_residual.result c.from_residual.ensures.1 in
    rw (p.1, p.2) (named_memory c.args.name.now _ c.in_err-name.field-0.0 c.requires
    c.in_err-name.ensures)

pub returns : goal.returns
returns c =
    starred c.args.name.now c.args.number c.args.stars.now c.args.attributes
    c.args.user_data c.in_ok-name.name
    c.geometry_place-geometry.result
    (c.if-not-stars_fit.ensures ∙ ap (stars_fit c.args.stars.now) c.as_slice.ensures)
    (c.geometry_place-geometry.ensures ∙ ap (geometry_place c.args.stars.now) c.as_slice-2.ensures)
    c.in_ok-name.ensures
