use Rattle.std.proofs.Common.{refl}
use Rattle.std.specs.String.{string_bytes}
use Rattle.gm_feature.specs.declared.value.Value.TheVariants as value
use Rattle.gm_wkt.specs.Printer as wkt
use Rattle.gm_rows.specs.Printer.{printed}
use Rattle.gm_rows.proofs.Pushing.{pushed_as}
use Rattle.gm_rows.proofs.stored.append_next.Goals as goal

pub returns-in-Geometry-clause-pushed : goal.returns-in-Geometry-clause-pushed
returns-in-Geometry-clause-pushed c = λ first others is.
    let there = rw c.in-Geometry.is at (c.next.ensures.value first others is) in
    let g = there.0 in
    pushed_as c.append_stored_geometry.result (string_bytes c.args.row.now)
    (string_bytes c.append_stored_geometry.new.row) (printed (wkt.printed g)) first (value.Geo g)
    there.2 refl (c.append_stored_geometry.ensures.text g there.1)

pub returns-in_default-clause-pushed : goal.returns-in_default-clause-pushed
returns-in_default-clause-pushed c = λ first others is.
    c.append_stored_value.ensures.text first (c.next.ensures.value first others is)
    (c.next.ensures.sound first others is)
