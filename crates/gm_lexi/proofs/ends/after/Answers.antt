use Rattle.std.proofs.Common.{arith}
use Rattle.std.proofs.lemmas.Grind.{common_steps}
use Rattle.gm_lexi.proofs.Raising.{raised_end}
use Rattle.gm_lexi.proofs.ends.after.Goals as goal

pub returns-in_ok-push-in-len1-up : goal.returns-in_ok-push-in-len1-up
returns-in_ok-push-in-len1-up c = grind (arith, common_steps, raised_end c.without_full.result.now)
