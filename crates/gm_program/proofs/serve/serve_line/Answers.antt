use Rattle.gm_program.specs.Machine.{line_turn}
use Rattle.gm_program.proofs.Streaming.{always_ok, on_ok, on_err, serves_one, part_one, part_none}
use Rattle.gm_program.proofs.serve.serve_line.Goals as goal

pub returns-in-Ok-clause-ok : goal.returns-in-Ok-clause-ok
returns-in-Ok-clause-ok g c =
    on_ok c.say.result c.say.ensures.ok
    (λ written m kept. serves_one c.args.setting m c.args.line.now c.in-Ok.reply _ _
    (c.in-Ok.ensures m kept) written)

pub returns-in-Ok-clause-err : goal.returns-in-Ok-clause-err
returns-in-Ok-clause-err g c =
    on_err c.say.result c.say.ensures.err
    (λ part m kept. part_one c.args.setting m c.args.line.now c.in-Ok.reply _ _
    (c.in-Ok.ensures m kept).reply part)

pub returns-in-Ok-clause-kept : goal.returns-in-Ok-clause-kept
returns-in-Ok-clause-kept g c =
    let m = c.requires.kept.0 in
    always_ok c.say.result (
      (line_turn c.args.setting m c.args.line.now).machine,
      (c.in-Ok.ensures m c.requires.kept.1).keeps,
    )

pub returns-in-Err-clause-err : goal.returns-in-Err-clause-err
returns-in-Err-clause-err g c = λ m kept. part_none _ _
