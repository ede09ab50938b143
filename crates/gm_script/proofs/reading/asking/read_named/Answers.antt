use Rattle.std.proofs.lemmas.Result.{err_from_is_err_and}
use Rattle.gm_script.proofs.TypedLines.{asks_typed, asks_untyped}
use Rattle.gm_script.proofs.reading.asking.read_named.Goals as goal

pub returns-in_err-type_number-clause-reads : goal.returns-in_err-type_number-clause-reads
returns-in_err-type_number-clause-reads c =
    let p = err_from_is_err_and c.from_residual.result c.from_residual.ensures.1 in
    rw (p.1, p.2) (asks_untyped c.args.types.now c.args.name.now c.args.text.now _ c.args.target
    c.in_err-type_number.field-0.0 c.in_err-type_number.ensures.refused)

pub returns-clause-reads : goal.returns-clause-reads
returns-clause-reads c =
    asks_typed c.args.types.now c.args.name.now c.args.text.now _ c.args.target
    c.in_ok-type_number.type_number c.in_ok-type_number.of.now c.read_question.result
    c.in_ok-type_number.ensures.found c.read_question.ensures.reads
