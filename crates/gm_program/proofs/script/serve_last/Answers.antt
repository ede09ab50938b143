use Rattle.std.proofs.lemmas.Result.{err_from_is_err_and}
use Rattle.gm_program.specs.Lines.{last_line}
use Rattle.gm_program.specs.Machine.{after, said, end_turn}
use Rattle.gm_program.proofs.Streaming.{on_ok, on_err, closes_end, part_of_more, part_behind}
use Rattle.gm_program.proofs.script.serve_last.Goals as goal

pub returns-in_err-serve_rest-clause-err : goal.returns-in_err-serve_rest-clause-err
returns-in_err-serve_rest-clause-err g c =
    let p = err_from_is_err_and c.from_residual.result c.from_residual.ensures.1 in
    rw p.1 (λ start m is kept. part_of_more _
    (said (end_turn c.args.setting (after c.args.setting m (last_line start))).reply) _ _
    (c.in_err-serve_rest.ensures.err start m is kept))

pub returns-clause-ok : goal.returns-clause-ok
returns-clause-ok g c = on_ok c.serve_end.result c.serve_end.ensures.ok (λ ended start m is kept.
    let served = c.in_ok-serve_rest.ensures.ok start m is kept in
    closes_end c.args.setting m (last_line start) _ _ _ served
    (ended (after c.args.setting m (last_line start)) served.keeps))

pub returns-clause-err : goal.returns-clause-err
returns-clause-err g c = on_err c.serve_end.result c.serve_end.ensures.err (λ part start m is kept.
    let served = c.in_ok-serve_rest.ensures.ok start m is kept in
    part_behind _ (said (end_turn c.args.setting (after c.args.setting m (last_line start))).reply)
    _ _ _ served.written (part (after c.args.setting m (last_line start)) served.keeps))
