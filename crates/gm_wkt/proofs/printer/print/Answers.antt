use Rattle.std.proofs.Common.{◌≡◌, sym, subst, List, ℕ, rules}
use Rattle.gm_wkt.specs.Grammar.{SpellsText}
use Rattle.gm_wkt.specs.Printer.{printed}
use Rattle.gm_wkt.proofs.Prints.{printed_spells}
use Rattle.gm_wkt.proofs.printer.print.Goals as goal

pub returns-clause-spells : goal.returns-clause-spells
returns-clause-spells c = λ kept.
    let text : c.from_string.result ≡ printed c.args.geometry.now = search rules in
    let P : List ℕ → Type 0 = λ t. SpellsText t c.args.geometry.now in
    subst P (sym text)
    (printed_spells
    (record { reads = c.reads_back.ensures; bytes = c.has_number_bytes.ensures })
    c.args.geometry.now kept)
