use Rattle.std.proofs.Common.{◌≡◌, ◌++◌, [], sym, ◌∙◌, arith}
use Rattle.std.proofs.lemmas.Grind.{common_steps}
use Rattle.std.proofs.lemmas.Result.{err_from_is_err_and}
use Rattle.gm_program.proofs.Cutting.{none_held, cut-part}
use Rattle.gm_program.proofs.Streaming.{serves_cut_as, part_cut_as, part_none, on_ok, on_err}
use Rattle.gm_program.proofs.serve.serve_ended.Goals as goal

pub returns-then-is_empty-clause-ok : goal.returns-then-is_empty-clause-ok
returns-then-is_empty-clause-ok g c =
    let empty : c.args.held.now.items ≡ [] = grind (arith, common_steps) in
    on_ok c.serve_line.result c.serve_line.ensures.ok
    (λ served start m is kept. rw (none_held start (sym empty ∙ is))
    (serves_cut_as c.args.setting m c.args.part.now _ _ _
    (cut-part c.min.result c.args.part.now c.min.ensures) (served m kept)))

pub returns-then-is_empty-clause-err : goal.returns-then-is_empty-clause-err
returns-then-is_empty-clause-err g c =
    let empty : c.args.held.now.items ≡ [] = grind (arith, common_steps) in
    on_err c.serve_line.result c.serve_line.ensures.err
    (λ part start m is kept. rw (none_held start (sym empty ∙ is))
    (part_cut_as c.args.setting m c.args.part.now _ _ _
    (cut-part c.min.result c.args.part.now c.min.ensures) (part m kept)))

pub returns-in-Err-clause-err : goal.returns-in-Err-clause-err
returns-in-Err-clause-err g c = λ start m is kept. part_none _ _

pub returns-in_err-serve_line-clause-err : goal.returns-in_err-serve_line-clause-err
returns-in_err-serve_line-clause-err g c =
    let p = err_from_is_err_and c.from_residual.result c.from_residual.ensures.1 in
    rw p.1 (λ start m is kept.
    part_cut_as c.args.setting m (start ++ c.args.part.now) c.deref.result.now _ _
    (c.deref.ensures.value ∙ c.in_default.ensures start is)
    (c.in_err-serve_line.ensures.err m kept))

pub returns-clause-ok : goal.returns-clause-ok
returns-clause-ok g c = λ start m is kept.
    serves_cut_as c.args.setting m (start ++ c.args.part.now) c.deref.result.now _ _
    (c.deref.ensures.value ∙ c.in_default.ensures start is)
    (c.in_ok-serve_line.ensures.ok m kept)

pub returns-then-is_empty-clause-kept : goal.returns-then-is_empty-clause-kept
returns-then-is_empty-clause-kept g c = c.serve_line.ensures.kept

pub returns-clause-kept : goal.returns-clause-kept
returns-clause-kept g c = c.in_ok-serve_line.ensures.kept
