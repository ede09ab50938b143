use Rattle.std.proofs.lemmas.Result.{err_from_is_err_and}
use Rattle.gm_types.specs.Parts.{parts_of}
use Rattle.gm_types.specs.Reader.{read_all, datum_of}
use Rattle.gm_types.proofs.ReadParts.{stopped_adding, last_read, last_refused, next_read}
use Rattle.gm_types.proofs.ReadParts.{next_refused}
use Rattle.gm_types.proofs.data_reader.read_data.Goals as goal

pub returns-in_err-push_datum : goal.returns-in_err-push_datum
returns-in_err-push_datum c =
    let p = err_from_is_err_and c.from_residual.result c.from_residual.ensures.1 in
    rw (p.1, p.2)
    (stopped_adding (read_all datum_of (parts_of 44 c.args.text.now)) (datum_of c.parts.rest.now)
    c.parts.list c.push_datum.new.list c.in_err-push_datum.field-0.0 c.in_err-push_datum.ensures
    (last_refused datum_of 44 (read_all datum_of (parts_of 44 c.args.text.now)) c.parts.list
    c.parts.rest.now c.parts.invariant c.in_default.ensures.cut))

pub returns-in_default : goal.returns-in_default
returns-in_default c =
    last_read datum_of 44 (read_all datum_of (parts_of 44 c.args.text.now)) c.parts.list
    c.push_datum.new.list c.parts.rest.now
    c.parts.invariant c.in_default.ensures.cut c.in_ok-push_datum.ensures

pub returns-in_err-push_datum-2 : goal.returns-in_err-push_datum-2
returns-in_err-push_datum-2 c =
    let p = err_from_is_err_and c.from_residual-in_err-push_datum-2.result
    c.from_residual-in_err-push_datum-2.ensures.1 in
    rw (p.1, p.2)
    (stopped_adding (read_all datum_of (parts_of 44 c.args.text.now)) (datum_of c.in-Some.part.now)
    c.parts.list c.push_datum-in-parts.new.list c.in_err-push_datum-2.field-0.0
    c.in_err-push_datum-2.ensures
    (next_refused datum_of 44 (read_all datum_of (parts_of 44 c.args.text.now)) c.parts.list
    c.parts.rest.now c.in-Some.part.now c.in-Some.behind.now
    c.parts.invariant c.in-Some.ensures.cut))

pub parts-preserved : goal.parts-preserved
parts-preserved c =
    next_read datum_of 44 (read_all datum_of (parts_of 44 c.args.text.now)) c.parts.list
    c.push_datum-in-parts.new.list c.parts.rest.now
    c.in-Some.part.now c.in-Some.behind.now c.parts.invariant c.in-Some.ensures.cut
    c.in_ok-push_datum-2.ensures
