use Rattle.std.proofs.Common.{◌≡◌, drop, map}
use Rattle.gm_rows.specs.Reader.{values_of, attribute_kinds}
use Rattle.gm_rows.proofs.ReadFields.{carried}
use Rattle.gm_rows.proofs.reader.read_values.Given as goal

abbrev pub invariant-fields : goal.invariant-fields
invariant-fields l = values_of (attribute_kinds l.attributes) (map (λ f. f.now) l.fields)
    ≡ carried l.faulty l.values
    (values_of (drop l.index (attribute_kinds l.attributes))
    (drop l.index (map (λ f. f.now) l.fields)))
