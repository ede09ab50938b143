use Rattle.std.proofs.Common.{◌≡◌, ap, ◌∙◌, rules}
use Rattle.gm_geom.specs.Number.{fixed_of, fixed_text}
use Rattle.gm_geom.proofs.RoundTrip.{reads_again}
use Rattle.gm_geom.proofs.printer.print_fixed.Goals as goal

pub returns-clause-reads : goal.returns-clause-reads
returns-clause-reads c =
    let text : c.from_string.result ≡ fixed_text c.args.value = search rules in
    ap fixed_of text ∙ reads_again c.args.value c.ranges.value
