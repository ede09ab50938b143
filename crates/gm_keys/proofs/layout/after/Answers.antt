use Rattle.std.proofs.Common.{take, arith}
use Rattle.std.proofs.lemmas.Grind.{common_steps}
use Rattle.gm_keys.proofs.layout.after.Goals as goal

pub returns-clause-found : goal.returns-clause-found
returns-clause-found c =
    (take c.args.count c.args.bytes.now, grind (arith, common_steps), grind (arith, common_steps))
