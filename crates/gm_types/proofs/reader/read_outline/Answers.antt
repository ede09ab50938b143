use Rattle.std.proofs.Common.{List, Some, sym, ◌∙◌, ap}
use Rattle.std.proofs.lemmas.Result.{err_from_is_err_and}
use Rattle.gm_types.specs.declared.datum.Datum.{Datum}
use Rattle.gm_types.specs.Reader.{attributes_of, stars_of, data_of, outline_with, outline_of}
use Rattle.gm_types.proofs.Outlined.{outline_stopped, outline_moved, no_data, outline_uncut}
use Rattle.gm_types.proofs.Outlined.{outline_cut}
use Rattle.gm_types.proofs.reader.read_outline.Goals as goal

pub returns-in_default : goal.returns-in_default
returns-in_default c =
    outline_moved (outline_with c.args.name.now c.args.number (stars_of c.args.text.now)
    (attributes_of c.args.text.now) (Some c.new.result))
    (outline_of c.args.name.now c.args.number c.args.text.now) c.outline_with.result
    (ap (λ (l : List Datum). outline_with c.args.name.now c.args.number (stars_of c.args.text.now)
    (attributes_of c.args.text.now) (Some l)) c.new.ensures
    ∙ outline_uncut c.args.name.now c.args.number c.args.text.now c.in_default.ensures.cut)
    c.outline_with.ensures

pub returns-in_err-user_data : goal.returns-in_err-user_data
returns-in_err-user_data c =
    let p = err_from_is_err_and c.from_residual.result c.from_residual.ensures.1 in
    rw (p.1, p.2)
    (outline_stopped (outline_of c.args.name.now c.args.number c.args.text.now)
    (data_of (Some c.in-Some.behind.now)) c.in_err-user_data.field-0.0 c.in_err-user_data.ensures
    (λ e. sym (outline_cut c.args.name.now c.args.number c.args.text.now c.in-Some.attributes.now
    c.in-Some.behind.now c.in-Some.ensures.cut)
    ∙ ap (outline_with c.args.name.now c.args.number (stars_of c.in-Some.attributes.now)
    (attributes_of c.in-Some.attributes.now)) e
    ∙ no_data c.args.name.now c.args.number (stars_of c.in-Some.attributes.now)
    (attributes_of c.in-Some.attributes.now)))

pub returns : goal.returns
returns c =
    outline_moved (outline_with c.args.name.now c.args.number (stars_of c.in-Some.attributes.now)
    (attributes_of c.in-Some.attributes.now) (Some c.in_ok-user_data.user_data))
    (outline_of c.args.name.now c.args.number c.args.text.now) c.outline_with-2.result
    (ap (outline_with c.args.name.now c.args.number (stars_of c.in-Some.attributes.now)
    (attributes_of c.in-Some.attributes.now)) (sym c.in_ok-user_data.ensures)
    ∙ outline_cut c.args.name.now c.args.number c.args.text.now c.in-Some.attributes.now
    c.in-Some.behind.now c.in-Some.ensures.cut)
    c.outline_with-2.ensures
