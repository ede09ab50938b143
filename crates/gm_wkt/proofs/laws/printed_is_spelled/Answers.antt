use Rattle.std.proofs.Common.{ap, ◌∙◌}
use Rattle.gm_wkt.specs.Answer.{judged, kept_or}
use Rattle.gm_wkt.specs.Printer.{printed}
use Rattle.gm_wkt.proofs.Prints.{PrintsNumbers, printed_spells}
use Rattle.gm_wkt.proofs.Values.{geometry_only}
use Rattle.gm_wkt.proofs.laws.printed_is_spelled.Goals as goal

pub returns-clause-spells : goal.returns-clause-spells
returns-clause-spells c =
    printed_spells (record { reads = c.reads_back.ensures; bytes = c.has_number_bytes.ensures })

pub returns-clause-reads_back : goal.returns-clause-reads_back
returns-clause-reads_back c = λ g kept.
    let numbers : PrintsNumbers =
    record { reads = c.reads_back.ensures; bytes = c.has_number_bytes.ensures } in
    ap judged (geometry_only (printed g) g (printed_spells numbers g kept)) ∙ ap (kept_or g) kept
