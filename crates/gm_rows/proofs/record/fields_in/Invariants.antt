use Rattle.std.proofs.Common.{◌≡◌, map, take}
use Rattle.csv.specs.Records.{fields_of}
use Rattle.gm_rows.proofs.record.fields_in.Given as goal

abbrev pub invariant-fields : goal.invariant-fields
invariant-fields l = map (λ f. f.now) l.fields.items ≡ take l.index (fields_of l.row)
