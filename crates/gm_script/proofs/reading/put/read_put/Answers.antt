use Rattle.std.proofs.lemmas.Result.{err_from_is_err_and}
use Rattle.gm_rows.specs.Reader.{row_of}
use Rattle.gm_script.specs.Reading.{put_of, put_read}
use Rattle.gm_script.proofs.TypedLines.{reads_typed, reads_untyped}
use Rattle.gm_script.proofs.reading.put.read_put.Goals as goal

pub returns-in_err-type_number-clause-reads : goal.returns-in_err-type_number-clause-reads
unfolding put_of
returns-in_err-type_number-clause-reads c =
    let p = err_from_is_err_and c.from_residual.result c.from_residual.ensures.1 in
    rw (p.1, p.2) (reads_untyped c.args.types.now c.args.name.now c.args.row.now
    (λ n t. put_read n (row_of t c.args.row.now))
    c.in_err-type_number.field-0.0 c.in_err-type_number.ensures.refused)

pub returns-clause-reads : goal.returns-clause-reads
unfolding put_of
returns-clause-reads c =
    reads_typed c.args.types.now c.args.name.now c.args.row.now
    (λ n t. put_read n (row_of t c.args.row.now))
    c.in_ok-type_number.type_number c.in_ok-type_number.of.now c.read_feature.result
    c.in_ok-type_number.ensures.found c.read_feature.ensures.reads
