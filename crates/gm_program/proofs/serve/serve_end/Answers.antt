use Rattle.gm_program.specs.Machine.{end_turn}
use Rattle.gm_program.proofs.Streaming.{always_ok, on_ok, on_err, goes_one, part_said, part_none}
use Rattle.gm_program.proofs.serve.serve_end.Goals as goal

pub returns-in-Ok-clause-ok : goal.returns-in-Ok-clause-ok
returns-in-Ok-clause-ok g c =
    on_ok c.say.result c.say.ensures.ok
    (λ written m kept. goes_one (end_turn c.args.setting m) c.in-Ok.reply _ _
    (c.in-Ok.ensures m kept) written)

pub returns-in-Ok-clause-err : goal.returns-in-Ok-clause-err
returns-in-Ok-clause-err g c =
    on_err c.say.result c.say.ensures.err
    (λ part m kept. part_said (end_turn c.args.setting m) c.in-Ok.reply _ _
    (c.in-Ok.ensures m kept).reply part)

pub returns-in-Err-clause-err : goal.returns-in-Err-clause-err
returns-in-Err-clause-err g c = λ m kept. part_none _ _

pub returns-in-Ok-clause-kept : goal.returns-in-Ok-clause-kept
returns-in-Ok-clause-kept g c =
    always_ok c.say.result (
      (end_turn c.args.setting c.requires.kept.0).machine,
      (c.in-Ok.ensures c.requires.kept.0 c.requires.kept.1).keeps,
    )
