use Rattle.gm_ecql.specs.Printer.{printed}
use Rattle.gm_ecql.proofs.laws.printed_filters_are_read.Goals as goal

pub returns : goal.returns
returns c = λ s t typed suited within. c.outcomes_are_answers.ensures.only s (printed s t) t within
    (c.printed_filters_are_spelled.ensures s t typed suited)
