use Rattle.std.proofs.Common.{rules}
use Rattle.gm_program.proofs.Numbers.{refused}
use Rattle.gm_program.proofs.number.number_in.Goals as goal

pub returns-in-Err : goal.returns-in-Err
returns-in-Err c =
    refused c.args.least c.args.most c.args.text.now c.ranges.most.fits (search rules)
    (search rules)
