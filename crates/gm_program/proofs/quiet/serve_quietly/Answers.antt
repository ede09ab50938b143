use Rattle.std.proofs.Common.{[], sym, ◌∙◌}
use Rattle.gm_program.proofs.Cutting.{cut-none}
use Rattle.gm_program.proofs.quiet.serve_quietly.Goals as goal

pub returns-in-Ok-clause-serves : goal.returns-in-Ok-clause-serves
returns-in-Ok-clause-serves g c =
    λ m kept. c.in-Ok.ensures.ok [] m (c.new-held.ensures.items ∙ sym cut-none) kept
