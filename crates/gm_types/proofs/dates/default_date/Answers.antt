use Rattle.gm_types.specs.Outline.{outlined}
use Rattle.gm_types.proofs.DateSettings.{date_standard, date_given, date_unknown}
use Rattle.gm_types.proofs.dates.default_date.Goals as goal

pub returns-in_default : goal.returns-in_default
returns-in_default c =
    date_standard (outlined c.args.outline.now) c.first_date_of.result c.in_default.ensures
    c.first_date_of.ensures

pub returns : goal.returns
returns c =
    date_given (outlined c.args.outline.now) c.in-Some.name.now c.in_ok-place.place
    c.in-Some.ensures c.in_ok-place.ensures

pub returns-in_err-place : goal.returns-in_err-place
returns-in_err-place c =
    rw c.from_residual.ensures
    (date_unknown (outlined c.args.outline.now) c.in-Some.name.now c.in-Some.ensures
    c.in_err-place.ensures)
