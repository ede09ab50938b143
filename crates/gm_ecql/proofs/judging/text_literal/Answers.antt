use Rattle.std.proofs.Common.{◌∙◌, ap, option_map}
use Rattle.gm_calendar.specs.Spelling.{instant_of}
use Rattle.gm_filter.specs.declared.filter.Literal.TheVariants as literal
use Rattle.gm_ecql.proofs.Instants.{instant_same}
use Rattle.gm_ecql.proofs.judging.text_literal.Goals as goal

pub returns-in-None : goal.returns-in-None
returns-in-None c =
    rw c.if-not-date.false
    (ap (option_map (λ at. literal.Date at))
    (c.in-None.ensures ∙ ap instant_of c.as_bytes.ensures.value
    ∙ instant_same
    (λ text at h. c.instants_are_spelled.ensures.bytes text at
    ((c.instants_are_spelled.ensures.instant text at).1 h)) c.args.text.now))

pub returns-in-Some : goal.returns-in-Some
returns-in-Some c =
    rw c.if-not-date.false
    (ap (option_map (λ at. literal.Date at))
    (c.in-Some.ensures ∙ ap instant_of c.as_bytes.ensures.value
    ∙ instant_same
    (λ text at h. c.instants_are_spelled.ensures.bytes text at
    ((c.instants_are_spelled.ensures.instant text at).1 h)) c.args.text.now))
