use Rattle.std.proofs.Common.{take, arith}
use Rattle.std.proofs.lemmas.Grind.{common_steps}
use Rattle.gm_outside.proofs.NextBytes.{gives_next}
use Rattle.gm_outside.proofs.memory_source.MemorySourceSource.read.Goals as goal

pub returns-clause-bytes : goal.returns-clause-bytes
returns-clause-bytes c =
    gives_next c.args.self.now.bytes.items c.args.self.now.at c.give-n.result
    (take c.give-n.result c.give-n.new.into) (grind (arith, common_steps))
    (grind (arith, common_steps)) (grind (arith, common_steps))
