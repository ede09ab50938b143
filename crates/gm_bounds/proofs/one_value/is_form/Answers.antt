use Rattle.std.proofs.Common.{sym, ap, ◌∙◌}
use Rattle.gm_bounds.specs.OneValue.{is_form}
use Rattle.gm_bounds.proofs.OneForms.{wide_is}
use Rattle.gm_bounds.proofs.one_value.is_form.Goals as goal

pub returns-in-Integer : goal.returns-in-Integer
returns-in-Integer c =
    wide_is 4 c.args.form.now c.type_inv.form
    ∙ ap (λ k. is_form k c.args.form.now) (sym c.in-Integer.is)

pub returns-in-Long : goal.returns-in-Long
returns-in-Long c =
    wide_is 8 c.args.form.now c.type_inv.form
    ∙ ap (λ k. is_form k c.args.form.now) (sym c.in-Long.is)
