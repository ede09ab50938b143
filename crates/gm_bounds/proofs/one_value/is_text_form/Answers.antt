use Rattle.std.proofs.Common.{refl}
use Rattle.gm_bounds.proofs.OneForms.{text_told, no_text}
use Rattle.gm_bounds.proofs.one_value.is_text_form.Goals as goal

pub returns-in-Some : goal.returns-in-Some
returns-in-Some c =
    text_told c.args.form.now c.in-Some.length _ refl c.in-Some.ensures.found c.in-Some.ensures.only

pub returns-in-None : goal.returns-in-None
returns-in-None c = no_text c.args.form.now c.in-None.ensures.only
