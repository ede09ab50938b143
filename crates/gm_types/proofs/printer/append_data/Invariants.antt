use Rattle.std.proofs.Common.{◌≡◌, ◌++◌, map, take}
use Rattle.std.specs.String.{string_bytes}
use Rattle.gm_types.specs.Spelling.{separated, written_datum, canonical_datum}
use Rattle.gm_types.proofs.printer.append_data.Given as goal

abbrev pub invariant-loop-datum_place : goal.invariant-loop-datum_place
invariant-loop-datum_place l =
    string_bytes l.out
    ≡ string_bytes l.fn.out
    ++ separated 0 (map written_datum (map canonical_datum (take l.datum_place l.list)))
