use Rattle.std.proofs.Common.{position, ◌∙◌, ap}
use Rattle.gm_types.specs.Outline.{outlined}
use Rattle.gm_types.specs.Words.{same_text}
use Rattle.gm_types.proofs.DateSettings.{no_date_named}
use Rattle.gm_types.proofs.dates.date_named.Goals as goal

pub returns-in_err-place : goal.returns-in_err-place
returns-in_err-place c =
    rw c.from_residual.ensures
    (no_date_named (outlined c.args.outline.now) c.args.name.now
    (c.in_err-place.ensures.value
    ∙ ap (position (λ attribute. same_text attribute.name c.args.name.now)) c.as_slice.ensures))
