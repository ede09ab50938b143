use Rattle.std.proofs.Common.{[], ap, ◌∙◌}
use Rattle.gm_program.specs.Lines.{complete_from}
use Rattle.gm_program.proofs.Making.{loading_lines, serves_as}
use Rattle.gm_program.proofs.Streaming.{on_ok}
use Rattle.gm_program.proofs.script.load.Goals as goal

pub returns-in-Ok-clause-serves : goal.returns-in-Ok-clause-serves
returns-in-Ok-clause-serves g c =
    on_ok c.serve_quietly.result c.serve_quietly.ensures.serves (λ serves m kept.
    serves_as c.args.setting m _ _ _ _
    (ap (complete_from []) (c.as_bytes.ensures.value ∙ c.in-Ok.ensures)
    ∙ loading_lines c.args.seed c.args.count) (serves m kept))
