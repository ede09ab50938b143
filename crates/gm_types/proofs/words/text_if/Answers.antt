use Rattle.std.proofs.Common.{sym, ◌∙◌, ap}
use Rattle.std.specs.Prelude.{Some}
use Rattle.gm_types.proofs.Texts.{not_text, is_text}
use Rattle.gm_types.proofs.words.text_if.Goals as goal

pub returns-in_default : goal.returns-in_default
returns-in_default c = not_text c.args.formed c.args.bytes.now c.in_default.ensures.cases.0

pub returns : goal.returns
returns c =
    is_text c.args.formed c.args.bytes.now c.if-not-formed.false c.in-Ok.ensures.cases.1
    ∙ ap Some (sym (c.in_ok-from_str.ensures ∙ c.in-Ok.ensures.cases.0))
