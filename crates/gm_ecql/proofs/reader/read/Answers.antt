use Rattle.gm_ecql.specs.declared.token.Spaced.{Spaced}
use Rattle.std.proofs.Common.{Vec, Global, map, sym, ap, subst, ◌∙◌}
use Rattle.std.specs.Prelude.{Ok, Err}
use Rattle.std.proofs.lemmas.Result.{err_from_is_err_and}
use Rattle.gm_filter.specs.declared.filter.Filter.{Filter}
use Rattle.gm_filter.specs.Tree.{tree}
use Rattle.gm_ecql.specs.Judging.{found_seen}
use Rattle.gm_ecql.specs.Parser.{document}
use Rattle.gm_ecql.proofs.Filters.{filter_answer, filter_suits}
use Rattle.gm_ecql.specs.Outcome.{Answers, filter_outcome}
use Rattle.gm_ecql.specs.Token.{seen_spaced, seen_all}
use Rattle.gm_ecql.proofs.Outcomes.{unspaced_seen}
use Rattle.gm_ecql.proofs.Steps.{at_exit, token_fault, parse_fault, name_fault, all_well}
use Rattle.gm_ecql.proofs.reader.read.Goals as goal

pub returns-in_err-tokens-clause-outcome : goal.returns-in_err-tokens-clause-outcome
unfolding filter_outcome
returns-in_err-tokens-clause-outcome c =
    let p = err_from_is_err_and c.from_residual.result c.from_residual.ensures.1 in
    at_exit (λ (f : Filter). tree f) (filter_outcome c.args.of.now c.args.text.now)
    c.from_residual.result p.0 p.1
    (subst (λ z. Answers (λ (f : Filter). tree f) (filter_outcome c.args.of.now c.args.text.now)
    (Err z)) (sym p.2)
    (token_fault (document c.args.of.now) (λ j. j.faults) (λ j. j.meaning) (λ (f : Filter). tree f)
    c.args.text.now (λ (v : Vec Spaced Global). map seen_spaced v.items)
    c.in_err-tokens.field-0.0 c.in_err-tokens.ensures))

pub returns-in_err-tokens-clause-answer : goal.returns-in_err-tokens-clause-answer
returns-in_err-tokens-clause-answer c =
    filter_answer c.args.of.now c.args.text.now c.from_residual.result
    (returns-in_err-tokens-clause-outcome c)

pub returns-in_err-filter-clause-outcome : goal.returns-in_err-filter-clause-outcome
unfolding filter_outcome
returns-in_err-filter-clause-outcome c =
    let p = err_from_is_err_and c.from_residual-in_err-filter.result
    c.from_residual-in_err-filter.ensures.1 in
    at_exit (λ (f : Filter). tree f) (filter_outcome c.args.of.now c.args.text.now)
    c.from_residual-in_err-filter.result p.0 p.1
    (parse_fault (document c.args.of.now) (λ j. j.faults) (λ j. j.meaning) (λ (f : Filter). tree f)
    c.args.text.now (map seen_spaced c.in_ok-tokens.tokens.items) (seen_all c.deref.result.now)
    c.in_err-filter.field-0.0 p.0 c.in_ok-tokens.ensures
    (unspaced_seen c.in_ok-tokens.tokens.items ∙ ap seen_all (sym c.deref.ensures.value))
    c.in_err-filter.ensures.value p.2)

pub returns-in_err-filter-clause-answer : goal.returns-in_err-filter-clause-answer
returns-in_err-filter-clause-answer c =
    filter_answer c.args.of.now c.args.text.now c.from_residual-in_err-filter.result
    (returns-in_err-filter-clause-outcome c)

pub returns-in_err-judge_faults-clause-outcome : goal.returns-in_err-judge_faults-clause-outcome
unfolding filter_outcome
returns-in_err-judge_faults-clause-outcome c =
    let p = err_from_is_err_and c.from_residual-in_err-judge_faults.result
    c.from_residual-in_err-judge_faults.ensures.1 in
    at_exit (λ (f : Filter). tree f) (filter_outcome c.args.of.now c.args.text.now)
    c.from_residual-in_err-judge_faults.result p.0 p.1
    (subst (λ z. Answers (λ (f : Filter). tree f) (filter_outcome c.args.of.now c.args.text.now)
    (Err z)) (sym p.2)
    (name_fault (document c.args.of.now) (λ j. j.faults) (λ j. j.meaning) (λ (f : Filter). tree f)
    c.args.text.now (map seen_spaced c.in_ok-tokens.tokens.items) (seen_all c.deref.result.now)
    (found_seen c.in_ok-filter.field-0)
    c.in_err-judge_faults.field-0.0 c.in_ok-tokens.ensures
    (unspaced_seen c.in_ok-tokens.tokens.items ∙ ap seen_all (sym c.deref.ensures.value))
    c.in_ok-filter.ensures.value c.in_err-judge_faults.ensures))

pub returns-in_err-judge_faults-clause-answer : goal.returns-in_err-judge_faults-clause-answer
returns-in_err-judge_faults-clause-answer c =
    filter_answer c.args.of.now c.args.text.now c.from_residual-in_err-judge_faults.result
    (returns-in_err-judge_faults-clause-outcome c)

pub returns-clause-outcome : goal.returns-clause-outcome
unfolding filter_outcome
returns-clause-outcome c =
    all_well (document c.args.of.now) (λ j. j.faults) (λ j. j.meaning) (λ (f : Filter). tree f)
    c.args.text.now (map seen_spaced c.in_ok-tokens.tokens.items) (seen_all c.deref.result.now)
    (found_seen c.in_ok-filter.field-0)
    c.in_ok-judge_faults.field-0 c.in_ok-tokens.ensures
    (unspaced_seen c.in_ok-tokens.tokens.items ∙ ap seen_all (sym c.deref.ensures.value))
    c.in_ok-filter.ensures.value c.in_ok-judge_faults.ensures

pub returns-clause-answer : goal.returns-clause-answer
returns-clause-answer c =
    filter_answer c.args.of.now c.args.text.now (Ok c.in_ok-filter.field-0.filter)
    (returns-clause-outcome c)

pub returns-clause-suits : goal.returns-clause-suits
returns-clause-suits c =
    filter_suits c.args.of.now c.args.text.now (tree c.in_ok-filter.field-0.filter)
    (returns-clause-outcome c)
