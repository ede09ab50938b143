use Rattle.std.proofs.Common.{◌∙◌}
use Rattle.csv.specs.Records.{fields_of}
use Rattle.gm_rows.proofs.Slices.{taken_all, next_field}
use Rattle.gm_rows.proofs.record.fields_in.Goals as goal

pub returns-in-None : goal.returns-in-None
returns-in-None c =
    c.fields.invariant ∙ taken_all (fields_of c.args.row.now) c.fields.index c.in-None.ensures.value

pub fields-preserved : goal.fields-preserved
fields-preserved c =
    next_field (fields_of c.args.row.now) c.fields.fields.items c.push.new.self.items
    c.in-Some.field c.fields.index
    c.fields.invariant c.in-Some.ensures.value c.in_ok-push-in-Some.ensures.items
