use Rattle.std.proofs.Common.{◌++◌, ℕ, List, ap, ◌∙◌}
use Rattle.std.specs.String.{string_bytes}
use Rattle.std.proofs.lemmas.Result.{on_ok_weaker}
use Rattle.gm_rows.specs.Printer.{printed}
use Rattle.gm_rows.proofs.stored.append_text.Goals as goal

pub returns-in-Ok-clause-text : goal.returns-in-Ok-clause-text
returns-in-Ok-clause-text c = λ utf8.
    on_ok_weaker c.append_field.result
    (λ e. e ∙ ap (λ (t : List ℕ). string_bytes c.args.row.now ++ printed t)
    c.in-Ok.ensures.cases.0) c.append_field.ensures.text

pub returns-in-Err-clause-text : goal.returns-in-Err-clause-text
returns-in-Err-clause-text c = λ utf8. absurd (c.in-Err.ensures.cases.0 utf8)
