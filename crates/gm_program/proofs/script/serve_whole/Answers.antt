use Rattle.std.proofs.Common.{[], sym, ◌∙◌}
use Rattle.std.proofs.lemmas.Result.{err_from_is_err_and}
use Rattle.gm_program.specs.Lines.{complete_from, partial_from}
use Rattle.gm_program.specs.Machine.{after}
use Rattle.gm_program.proofs.Cutting.{cut-none}
use Rattle.gm_program.proofs.Making.{part_at_end, part_of_whole, whole_served}
use Rattle.gm_program.proofs.Streaming.{on_ok, on_err}
use Rattle.gm_program.proofs.script.serve_whole.Goals as goal

pub returns-in_err-serve_piece-clause-err : goal.returns-in_err-serve_piece-clause-err
returns-in_err-serve_piece-clause-err g c =
    let p = err_from_is_err_and c.from_residual.result c.from_residual.ensures.1 in
    rw p.1 (λ m kept. part_of_whole c.args.setting m c.args.script.now _ _
    (c.in_err-serve_piece.ensures.err [] m (c.new-held.ensures.items ∙ sym cut-none) kept))

pub returns-clause-ok : goal.returns-clause-ok
returns-clause-ok g c = on_ok c.serve_last.result c.serve_last.ensures.ok (λ closes m kept.
    let script = c.args.script.now in
    let first =
    c.in_ok-serve_piece.ensures.ok [] m (c.new-held.ensures.items ∙ sym cut-none) kept in
    whole_served c.args.setting m script _ _ _ first
    (closes (partial_from [] script) (after c.args.setting m (complete_from [] script))
    (c.deref.ensures.value
    ∙ c.in_ok-serve_piece.ensures.held [] (c.new-held.ensures.items ∙ sym cut-none)) first.keeps))

pub returns-clause-err : goal.returns-clause-err
returns-clause-err g c = on_err c.serve_last.result c.serve_last.ensures.err (λ part m kept.
    let script = c.args.script.now in
    let first =
    c.in_ok-serve_piece.ensures.ok [] m (c.new-held.ensures.items ∙ sym cut-none) kept in
    part_at_end c.args.setting m script _ _ _ first
    (part (partial_from [] script) (after c.args.setting m (complete_from [] script))
    (c.deref.ensures.value
    ∙ c.in_ok-serve_piece.ensures.held [] (c.new-held.ensures.items ∙ sym cut-none)) first.keeps))
