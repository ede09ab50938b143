use Rattle.std.proofs.Common.{◌∙◌, refl, arith}
use Rattle.gm_rows.specs.declared.fault.RowFault.TheVariants as fault
use Rattle.gm_rows.proofs.ReadFields.{more, second, first, short, done}
use Rattle.gm_rows.proofs.reader.read_values.Goals.{in-Ok+in-Ok-push, in-Err-Geometry}
use Rattle.gm_rows.proofs.reader.read_values.Goals as goal

pub fields-preserved : goal.fields-preserved
fields-preserved c = elim c.match-read_field.branch [
  | in-Ok+in-Ok-push w ↦
      rw (w.values-is, w.faulty-is, w.in-Ok-push.ensures.ok)
      (c.fields.invariant
      ∙ more c.args.attributes.now c.args.fields.now c.fields.index c.fields.faulty
      c.fields.values (omega arith) c.index-attributes-index.result _ (omega arith)
      c.index-attributes-index.is w.in-Ok.value w.in-Ok.ensures)
  | in-Err-Geometry w ↦
      let f = rw w.in-Err-Geometry.field-0-is at w.in-Err-Geometry.ensures in
      rw (w.values-is, w.faulty-is)
      (c.fields.invariant
      ∙ second c.args.attributes.now c.args.fields.now c.fields.index c.fields.faulty
      c.fields.values (omega arith) c.index-attributes-index.result _ (omega arith)
      c.index-attributes-index.is f)
]

pub returns-then-index-fields : goal.returns-then-index-fields
returns-then-index-fields c =
    c.fields.invariant
    ∙ short c.args.attributes.now c.args.fields.now c.fields.index c.fields.faulty
    c.fields.values (omega arith) (omega arith)

pub returns-in-Err-Value : goal.returns-in-Err-Value
returns-in-Err-Value c =
    let f = rw c.in-Err-Value.field-0-is at c.in-Err-Value.ensures in
    c.fields.invariant
    ∙ first c.args.attributes.now c.args.fields.now c.fields.index c.fields.faulty
    c.fields.values (omega arith) c.index-attributes-index.result _ (omega arith)
    c.index-attributes-index.is fault.Value (λ rest. refl) f

pub returns-in-Err-Count : goal.returns-in-Err-Count
returns-in-Err-Count c =
    let f = rw c.in-Err-Count.field-0-is at c.in-Err-Count.ensures in
    c.fields.invariant
    ∙ first c.args.attributes.now c.args.fields.now c.fields.index c.fields.faulty
    c.fields.values (omega arith) c.index-attributes-index.result _ (omega arith)
    c.index-attributes-index.is fault.Count (λ rest. refl) f

pub returns-in-Err-Date : goal.returns-in-Err-Date
returns-in-Err-Date c =
    let f = rw c.in-Err-Date.field-0-is at c.in-Err-Date.ensures in
    c.fields.invariant
    ∙ first c.args.attributes.now c.args.fields.now c.fields.index c.fields.faulty
    c.fields.values (omega arith) c.index-attributes-index.result _ (omega arith)
    c.index-attributes-index.is fault.Date (λ rest. refl) f

pub returns-in-Err-Id : goal.returns-in-Err-Id
returns-in-Err-Id c =
    let f = rw c.in-Err-Id.field-0-is at c.in-Err-Id.ensures in
    c.fields.invariant
    ∙ first c.args.attributes.now c.args.fields.now c.fields.index c.fields.faulty
    c.fields.values (omega arith) c.index-attributes-index.result _ (omega arith)
    c.index-attributes-index.is fault.Id (λ rest. refl) f

pub returns-then-faulty : goal.returns-then-faulty
returns-then-faulty c =
    c.fields.invariant
    ∙ rw c.if-faulty.true
    (done c.args.attributes.now c.args.fields.now c.fields.index c.fields.values
    c.fields-test.false).1

pub returns : goal.returns
returns c = c.fields.invariant
    ∙ rw c.if-faulty.false
    (done c.args.attributes.now c.args.fields.now c.fields.index c.fields.values
    c.fields-test.false).0
