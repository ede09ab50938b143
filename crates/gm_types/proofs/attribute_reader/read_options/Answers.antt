use Rattle.std.proofs.lemmas.Result.{err_from_is_err_and}
use Rattle.gm_types.specs.Parts.{parts_of}
use Rattle.gm_types.specs.Reader.{read_all, option_of}
use Rattle.gm_types.proofs.ReadParts.{stopped_adding, last_read, last_refused, next_read}
use Rattle.gm_types.proofs.ReadParts.{next_refused}
use Rattle.gm_types.proofs.attribute_reader.read_options.Goals as goal

pub returns-in_err-push_option : goal.returns-in_err-push_option
returns-in_err-push_option c =
    let p = err_from_is_err_and c.from_residual.result c.from_residual.ensures.1 in
    rw (p.1, p.2)
    (stopped_adding (read_all (option_of c.args.kind) (parts_of 58 c.args.text.now))
    ((option_of c.args.kind) c.parts.rest.now)
    c.parts.options c.push_option.new.options c.in_err-push_option.field-0.0
    c.in_err-push_option.ensures
    (last_refused (option_of c.args.kind) 58
    (read_all (option_of c.args.kind) (parts_of 58 c.args.text.now)) c.parts.options
    c.parts.rest.now c.parts.invariant c.in_default.ensures.cut))

pub returns-in_default : goal.returns-in_default
returns-in_default c =
    last_read (option_of c.args.kind) 58 (read_all (option_of c.args.kind)
    (parts_of 58 c.args.text.now)) c.parts.options
    c.push_option.new.options c.parts.rest.now
    c.parts.invariant c.in_default.ensures.cut c.in_ok-push_option.ensures

pub returns-in_err-push_option-2 : goal.returns-in_err-push_option-2
returns-in_err-push_option-2 c =
    let p = err_from_is_err_and c.from_residual-in_err-push_option-2.result
    c.from_residual-in_err-push_option-2.ensures.1 in
    rw (p.1, p.2)
    (stopped_adding (read_all (option_of c.args.kind) (parts_of 58 c.args.text.now))
    ((option_of c.args.kind) c.in-Some.part.now)
    c.parts.options c.push_option-in-parts.new.options c.in_err-push_option-2.field-0.0
    c.in_err-push_option-2.ensures
    (next_refused (option_of c.args.kind) 58
    (read_all (option_of c.args.kind) (parts_of 58 c.args.text.now)) c.parts.options
    c.parts.rest.now c.in-Some.part.now c.in-Some.behind.now
    c.parts.invariant c.in-Some.ensures.cut))

pub parts-preserved : goal.parts-preserved
parts-preserved c =
    next_read (option_of c.args.kind) 58 (read_all (option_of c.args.kind)
    (parts_of 58 c.args.text.now)) c.parts.options
    c.push_option-in-parts.new.options c.parts.rest.now
    c.in-Some.part.now c.in-Some.behind.now c.parts.invariant c.in-Some.ensures.cut
    c.in_ok-push_option-2.ensures
