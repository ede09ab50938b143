use Rattle.std.proofs.lemmas.Result.{err_from_is_err_and}
use Rattle.gm_script.specs.Reading.{delete_of, delete_at}
use Rattle.gm_script.proofs.TypedLines.{reads_typed, reads_untyped}
use Rattle.gm_script.proofs.reading.delete.read_delete.Goals as goal

pub returns-in_err-type_number-clause-reads : goal.returns-in_err-type_number-clause-reads
unfolding delete_of
returns-in_err-type_number-clause-reads c =
    let p = err_from_is_err_and c.from_residual.result c.from_residual.ensures.1 in
    rw (p.1, p.2) (reads_untyped c.args.types.now c.args.name.now c.args.id.now
    (λ n t. delete_at n c.args.id.now)
    c.in_err-type_number.field-0.0 c.in_err-type_number.ensures.refused)

pub returns-clause-reads : goal.returns-clause-reads
unfolding delete_of
returns-clause-reads c =
    reads_typed c.args.types.now c.args.name.now c.args.id.now
    (λ n t. delete_at n c.args.id.now)
    c.in_ok-type_number.type_number c.in_ok-type_number.of.now c.read_identifier.result
    c.in_ok-type_number.ensures.found c.read_identifier.ensures.reads
