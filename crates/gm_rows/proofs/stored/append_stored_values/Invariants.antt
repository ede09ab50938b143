use Rattle.std.proofs.Common.{◌++◌, drop, map}
use Rattle.std.specs.String.{string_bytes}
use Rattle.gm_base.specs.Text.{BeginsWith}
use Rattle.gm_feature.specs.declared.feature.Feature.{Feature}
use Rattle.gm_feature.specs.Stored.{IsStored}
use Rattle.gm_rows.specs.Printer.{field_of, further}
use Rattle.gm_rows.proofs.Pushing.{ArePushed}
use Rattle.gm_rows.proofs.stored.append_stored_values.Given as goal

abbrev pub invariant-values : goal.invariant-values
invariant-values l = record {
  kept : BeginsWith (string_bytes l.row) (string_bytes l.fn.row);
  text : (f : Feature) → IsStored l.stored f
      → ArePushed l.left (string_bytes l.row)
      (string_bytes l.fn.row ++ further (map field_of f.values)) (drop l.counter f.values);
}
