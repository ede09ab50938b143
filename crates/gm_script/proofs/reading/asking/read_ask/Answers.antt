use Rattle.std.proofs.Common.{subst}
use Rattle.gm_script.proofs.AskWords.{asked_same}
use Rattle.gm_script.specs.Reading.{ReadsAsk}
use Rattle.gm_script.proofs.reading.asking.read_ask.Goals as goal

pub returns-in-Some-clause-reads : goal.returns-in-Some-clause-reads
returns-in-Some-clause-reads c =
    subst (λ said. ReadsAsk said c.read_named.result)
    (asked_same c.args.types.now c.args.name.now c.args.rest.now _ _ _ _ c.in-Some.target
    c.split_option.ensures.value c.split_option.ensures.rest
    c.split_option-2.ensures.value c.split_option-2.ensures.rest c.in-Some.ensures)
    c.read_named.ensures.reads
