use Rattle.std.proofs.Common.{Some, ap, sym, ◌∙◌}
use Rattle.gm_ecql.specs.Scanner.{a_name_then}
use Rattle.gm_ecql.specs.Token.{a_name}
use Rattle.gm_ecql.proofs.Complete.{no_utf8, utf8_is}
use Rattle.gm_ecql.proofs.quoted.name_token.Goals as goal

pub returns-in-Err : goal.returns-in-Err
returns-in-Err c =
    no_utf8 c.args.name.now (a_name_then c.args.name.now c.args.rest.now) c.in-Err.ensures.cases.0

pub returns-in-Ok : goal.returns-in-Ok
returns-in-Ok c = ap (λ z. Some (a_name z, c.args.rest.now)) c.in-Ok.ensures.cases.0
    ∙ sym (utf8_is c.args.name.now (a_name_then c.args.name.now c.args.rest.now)
    c.in-Ok.ensures.cases.1)
