use Rattle.gm_ecql.proofs.PrintedLiterals.{PrintsInstants}
use Rattle.gm_ecql.proofs.PrintedTests.{Below}
use Rattle.gm_ecql.proofs.PrintedTrees.{spells}
use Rattle.gm_ecql.proofs.laws.printed_filters_are_spelled.Goals as goal

pub returns : goal.returns
returns c = λ s t typed suited.
    let instants : PrintsInstants = record {
      tested = λ at is. (c.instants_are_tested.ensures at).1 is;
      reads = c.printed_instants_are_read.ensures.reads_back;
      date = c.printed_instants_are_read.ensures.date;
      bytes = c.printed_instants_are_read.ensures.bytes;
    } in
    let below : Below =
    record {
      instants = instants;
      fixed = c.reads_back.ensures;
      kept = c.printed_is_spelled.ensures.reads_back;
    } in
    spells s below typed t suited
