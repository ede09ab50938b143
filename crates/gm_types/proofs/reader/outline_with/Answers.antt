use Rattle.std.proofs.Common.{Some, sym, ◌∙◌, ap}
use Rattle.std.proofs.lemmas.Result.{err_from_is_err_and}
use Rattle.gm_types.specs.Reader.{attributes_of, stars_of, outline_with}
use Rattle.gm_types.proofs.Outlined.{outline_stopped, outline_moved, no_attributes}
use Rattle.gm_types.proofs.reader.outline_with.Goals as goal

pub returns-in_err-attributes : goal.returns-in_err-attributes
returns-in_err-attributes c =
    let p = err_from_is_err_and c.from_residual.result c.from_residual.ensures.1 in
    rw (p.1, p.2)
    (outline_stopped
    (outline_with c.args.name.now c.args.number (stars_of c.args.text.now)
    (attributes_of c.args.text.now) (Some c.args.user_data))
    (attributes_of c.args.text.now) c.in_err-attributes.field-0.0 c.in_err-attributes.ensures
    (no_attributes c.args.name.now c.args.number (stars_of c.args.text.now) (Some c.args.user_data)
    (attributes_of c.args.text.now)))

pub returns : goal.returns
returns c =
    outline_moved (outline_with c.args.name.now c.args.number c.as_slice.result.now
    (Some c.in_ok-attributes.attributes) (Some c.args.user_data))
    (outline_with c.args.name.now c.args.number (stars_of c.args.text.now)
    (attributes_of c.args.text.now) (Some c.args.user_data))
    c.starred_outline.result
    (ap (λ s. outline_with c.args.name.now c.args.number s (Some c.in_ok-attributes.attributes)
    (Some c.args.user_data))
    (c.as_slice.ensures.value ∙ c.in_ok-stars.ensures)
    ∙ ap (λ o. outline_with c.args.name.now c.args.number (stars_of c.args.text.now) o
    (Some c.args.user_data)) (sym c.in_ok-attributes.ensures))
    c.starred_outline.ensures
