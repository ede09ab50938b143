use Rattle.std.proofs.Common.{map}
use Rattle.gm_ecql.specs.Token.{seen_spaced}
use Rattle.gm_ecql.proofs.Outcomes.{blank_none, blank_spelled, tokens_given, tokens_found}
use Rattle.gm_ecql.proofs.Outcomes.{tokens_missed}
use Rattle.gm_ecql.proofs.scanner.tokens.Goals as goal

pub returns-then-blank_count-gt0-clause-value : goal.returns-then-blank_count-gt0-clause-value
returns-then-blank_count-gt0-clause-value c =
    blank_none c.args.text.now c.blank_count.result c.blank_count.ensures.value
    c.if-blank_count-gt0.true

pub returns-then-blank_count-gt0-clause-none : goal.returns-then-blank_count-gt0-clause-none
returns-then-blank_count-gt0-clause-none c = λ _ ts s.
    blank_spelled c.args.text.now c.blank_count.result c.blank_count.ensures.value
    c.if-blank_count-gt0.true ts s

pub returns-clause-value : goal.returns-clause-value
returns-clause-value c =
    tokens_given (λ v. map seen_spaced v.items) c.args.text.now c.blank_count.result
    c.blank_count.ensures.value
    c.if-blank_count-gt0.false c.tokens_from.result c.tokens_from.ensures.found
    c.tokens_from.ensures.none

pub returns-clause-found : goal.returns-clause-found
returns-clause-found c =
    tokens_found (λ v. map seen_spaced v.items) c.args.text.now c.blank_count.result
    c.blank_count.ensures.value
    c.if-blank_count-gt0.false c.tokens_from.result c.tokens_from.ensures.found

pub returns-clause-none : goal.returns-clause-none
returns-clause-none c =
    tokens_missed (λ v. map seen_spaced v.items) c.args.text.now c.blank_count.result
    c.blank_count.ensures.value
    c.if-blank_count-gt0.false c.tokens_from.result c.tokens_from.ensures.none
