use Rattle.std.proofs.Common.{arith}
use Rattle.std.proofs.lemmas.Grind.{common_steps}
use Rattle.gm_lexi.specs.Lexicode.{int_bytes}
use Rattle.gm_lexi.proofs.numbers.put_int.Goals as goal

pub returns-clause-ok : goal.returns-clause-ok
unfolding int_bytes
returns-clause-ok c = grind (arith, common_steps)
