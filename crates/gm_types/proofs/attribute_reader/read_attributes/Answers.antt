use Rattle.std.proofs.lemmas.Result.{err_from_is_err_and}
use Rattle.gm_types.specs.Parts.{parts_of}
use Rattle.gm_types.specs.Reader.{read_all, attribute_of}
use Rattle.gm_types.proofs.ReadParts.{stopped_adding, last_read, last_refused, next_read}
use Rattle.gm_types.proofs.ReadParts.{next_refused}
use Rattle.gm_types.proofs.attribute_reader.read_attributes.Goals as goal

pub returns-in_err-push_attribute : goal.returns-in_err-push_attribute
returns-in_err-push_attribute c =
    let p = err_from_is_err_and c.from_residual.result c.from_residual.ensures.1 in
    rw (p.1, p.2)
    (stopped_adding (read_all attribute_of (parts_of 44 c.args.text.now))
    (attribute_of c.parts.rest.now)
    c.parts.attributes c.push_attribute.new.attributes c.in_err-push_attribute.field-0.0
    c.in_err-push_attribute.ensures
    (last_refused attribute_of 44 (read_all attribute_of (parts_of 44 c.args.text.now))
    c.parts.attributes
    c.parts.rest.now c.parts.invariant c.in_default.ensures.cut))

pub returns-in_default : goal.returns-in_default
returns-in_default c =
    last_read attribute_of 44 (read_all attribute_of (parts_of 44 c.args.text.now))
    c.parts.attributes
    c.push_attribute.new.attributes c.parts.rest.now
    c.parts.invariant c.in_default.ensures.cut c.in_ok-push_attribute.ensures

pub returns-in_err-push_attribute-2 : goal.returns-in_err-push_attribute-2
returns-in_err-push_attribute-2 c =
    let p = err_from_is_err_and c.from_residual-in_err-push_attribute-2.result
    c.from_residual-in_err-push_attribute-2.ensures.1 in
    rw (p.1, p.2)
    (stopped_adding (read_all attribute_of (parts_of 44 c.args.text.now))
    (attribute_of c.in-Some.part.now)
    c.parts.attributes c.push_attribute-in-parts.new.attributes c.in_err-push_attribute-2.field-0.0
    c.in_err-push_attribute-2.ensures
    (next_refused attribute_of 44 (read_all attribute_of (parts_of 44 c.args.text.now))
    c.parts.attributes
    c.parts.rest.now c.in-Some.part.now c.in-Some.behind.now
    c.parts.invariant c.in-Some.ensures.cut))

pub parts-preserved : goal.parts-preserved
parts-preserved c =
    next_read attribute_of 44 (read_all attribute_of (parts_of 44 c.args.text.now))
    c.parts.attributes
    c.push_attribute-in-parts.new.attributes c.parts.rest.now
    c.in-Some.part.now c.in-Some.behind.now c.parts.invariant c.in-Some.ensures.cut
    c.in_ok-push_attribute-2.ensures
