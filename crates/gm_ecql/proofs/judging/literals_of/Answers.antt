use Rattle.std.proofs.Common.{sym, ◌∙◌}
use Rattle.gm_ecql.proofs.Literals.{literals_more}
use Rattle.gm_ecql.proofs.judging.literals_of.Goals as goal

pub constants-preserved : goal.constants-preserved
constants-preserved c =
    literals_more c.args.date c.args.constants.now c.constants.constant-index c.constant-item.result
    c.constants.literals c.push.new.self c.in-Some.literal _
    c.constants-test.true (sym c.constant-item.is) (sym c.in-Some.is ∙ c.in_ok-literal_of.ensures)
    c.in_ok-push-in-Some.ensures.ok c.constants.invariant
