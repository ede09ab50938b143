use Rattle.std.proofs.Common.{◌≡◌, ap, ◌∙◌, arith}
use Rattle.std.proofs.lemmas.Grind.{common_steps}
use Rattle.gm_calendar.specs.Spelling.{instant_text, instant_of}
use Rattle.gm_calendar.proofs.printer.print_instant.Goals as goal

pub returns-clause-reads_back : goal.returns-clause-reads_back
returns-clause-reads_back c =
    let text : c.from_string.result ≡ instant_text c.args.at = grind (arith, common_steps) in
    ap instant_of text
    ∙ c.printed_instants_are_read.ensures.reads_back c.args.at c.ms-ms.ensures.range
