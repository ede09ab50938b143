use Rattle.std.proofs.Common.{Some, ap, sym, ◌∙◌}
use Rattle.gm_ecql.specs.Scanner.{a_number_then}
use Rattle.gm_ecql.specs.Token.{a_number}
use Rattle.gm_ecql.proofs.Complete.{no_utf8, utf8_is}
use Rattle.gm_ecql.proofs.numeric.number_token.Goals as goal

pub returns-in-Err : goal.returns-in-Err
returns-in-Err c =
    no_utf8 c.args.number.now (a_number_then c.args.number.now c.args.rest.now)
    c.in-Err.ensures.cases.0

pub returns-in-Ok : goal.returns-in-Ok
returns-in-Ok c = ap (λ z. Some (a_number z, c.args.rest.now)) c.in-Ok.ensures.cases.0
    ∙ sym (utf8_is c.args.number.now (a_number_then c.args.number.now c.args.rest.now)
    c.in-Ok.ensures.cases.1)
