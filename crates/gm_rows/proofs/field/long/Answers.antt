use Rattle.std.proofs.Common.{◌∙◌, sym, ap}
use mir.Syntax.{w64}
use mir.Val.{hbits}
use Rattle.gm_rows.specs.Reader.{integer_of}
use Rattle.gm_rows.proofs.Numbers.{no_number, parsed}
use Rattle.gm_rows.proofs.field.long.Goals as goal

pub returns-in_default : goal.returns-in_default
returns-in_default c = sym (no_number w64 c.args.field.now c.in_default.ensures.cases.0)

pub returns : goal.returns
returns c =
    c.ok.ensures.value
    ∙ parsed w64 c.in-Ok.text.now c.parse.result c.parse.ensures.value.0
    ∙ ap (integer_of (hbits w64)) c.in-Ok.ensures.cases.0
