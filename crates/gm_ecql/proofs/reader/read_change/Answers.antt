use Rattle.gm_ecql.specs.declared.token.Spaced.{Spaced}
use Rattle.std.proofs.Common.{Vec, Global, map, sym, ap, subst, ◌∙◌}
use Rattle.std.specs.Prelude.{Ok, Err}
use Rattle.std.proofs.lemmas.Result.{err_from_is_err_and}
use Rattle.gm_ecql.specs.Change.{change_document, change_seen}
use Rattle.gm_ecql.specs.Outcome.{meant, meant_by}
use Rattle.gm_ecql.proofs.Changes.{change_answer, change_fits, change_may_hold}
use Rattle.gm_ecql.specs.Outcome.{Answers, change_outcome}
use Rattle.gm_ecql.specs.Token.{seen_spaced, seen_all}
use Rattle.gm_ecql.proofs.Outcomes.{unspaced_seen}
use Rattle.gm_ecql.proofs.Steps.{at_exit, token_fault, parse_fault, name_fault, all_well}
use Rattle.gm_ecql.proofs.reader.read_change.Goals as goal

pub returns-in_err-tokens-clause-outcome : goal.returns-in_err-tokens-clause-outcome
unfolding change_outcome
returns-in_err-tokens-clause-outcome c =
    let p = err_from_is_err_and c.from_residual.result c.from_residual.ensures.1 in
    at_exit meant (change_outcome c.args.of.now c.args.text.now) c.from_residual.result p.0 p.1
    (subst (λ z. Answers meant (change_outcome c.args.of.now c.args.text.now) (Err z)) (sym p.2)
    (token_fault (change_document c.args.of.now) (λ j. j.faults) meant_by meant c.args.text.now
    (λ (v : Vec Spaced Global). map seen_spaced v.items) c.in_err-tokens.field-0.0
    c.in_err-tokens.ensures))

pub returns-in_err-tokens-clause-answer : goal.returns-in_err-tokens-clause-answer
returns-in_err-tokens-clause-answer c =
    change_answer c.args.of.now c.args.text.now c.from_residual.result
    (returns-in_err-tokens-clause-outcome c)

pub returns-in_err-change-clause-outcome : goal.returns-in_err-change-clause-outcome
unfolding change_outcome
returns-in_err-change-clause-outcome c =
    let p = err_from_is_err_and c.from_residual-in_err-change.result
    c.from_residual-in_err-change.ensures.1 in
    at_exit meant (change_outcome c.args.of.now c.args.text.now)
    c.from_residual-in_err-change.result p.0 p.1
    (parse_fault (change_document c.args.of.now) (λ j. j.faults) meant_by meant c.args.text.now
    (map seen_spaced c.in_ok-tokens.tokens.items) (seen_all c.deref.result.now)
    c.in_err-change.field-0.0 p.0 c.in_ok-tokens.ensures
    (unspaced_seen c.in_ok-tokens.tokens.items ∙ ap seen_all (sym c.deref.ensures.value))
    c.in_err-change.ensures.value p.2)

pub returns-in_err-change-clause-answer : goal.returns-in_err-change-clause-answer
returns-in_err-change-clause-answer c =
    change_answer c.args.of.now c.args.text.now c.from_residual-in_err-change.result
    (returns-in_err-change-clause-outcome c)

pub returns-in_err-judge_faults-clause-outcome : goal.returns-in_err-judge_faults-clause-outcome
unfolding change_outcome
returns-in_err-judge_faults-clause-outcome c =
    let p = err_from_is_err_and c.from_residual-in_err-judge_faults.result
    c.from_residual-in_err-judge_faults.ensures.1 in
    at_exit meant (change_outcome c.args.of.now c.args.text.now)
    c.from_residual-in_err-judge_faults.result p.0 p.1
    (subst (λ z. Answers meant (change_outcome c.args.of.now c.args.text.now) (Err z)) (sym p.2)
    (name_fault (change_document c.args.of.now) (λ j. j.faults) meant_by meant c.args.text.now
    (map seen_spaced c.in_ok-tokens.tokens.items) (seen_all c.deref.result.now)
    (change_seen c.in_ok-change.change c.in_ok-change.faults)
    c.in_err-judge_faults.field-0.0 c.in_ok-tokens.ensures
    (unspaced_seen c.in_ok-tokens.tokens.items ∙ ap seen_all (sym c.deref.ensures.value))
    c.in_ok-change.ensures.value c.in_err-judge_faults.ensures))

pub returns-in_err-judge_faults-clause-answer : goal.returns-in_err-judge_faults-clause-answer
returns-in_err-judge_faults-clause-answer c =
    change_answer c.args.of.now c.args.text.now c.from_residual-in_err-judge_faults.result
    (returns-in_err-judge_faults-clause-outcome c)

pub returns-clause-outcome : goal.returns-clause-outcome
unfolding change_outcome
returns-clause-outcome c =
    all_well (change_document c.args.of.now) (λ j. j.faults) meant_by meant c.args.text.now
    (map seen_spaced c.in_ok-tokens.tokens.items) (seen_all c.deref.result.now)
    (change_seen c.in_ok-change.change c.in_ok-change.faults)
    c.in_ok-judge_faults.field-0 c.in_ok-tokens.ensures
    (unspaced_seen c.in_ok-tokens.tokens.items ∙ ap seen_all (sym c.deref.ensures.value))
    c.in_ok-change.ensures.value c.in_ok-judge_faults.ensures

pub returns-clause-answer : goal.returns-clause-answer
returns-clause-answer c =
    change_answer c.args.of.now c.args.text.now (Ok c.in_ok-change.change)
    (returns-clause-outcome c)

pub returns-clause-holds : goal.returns-clause-holds
returns-clause-holds c =
    change_may_hold c.args.of.now c.args.text.now (meant c.in_ok-change.change)
    (returns-clause-outcome c)

pub returns-clause-suits : goal.returns-clause-suits
returns-clause-suits c =
    change_fits c.args.of.now c.args.text.now (meant c.in_ok-change.change)
    (returns-clause-outcome c)
