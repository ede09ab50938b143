use Rattle.std.proofs.Common.{◌<◌, ◌∙◌, length, sym, arith}
use Rattle.std.proofs.lemmas.Result.{err_from_is_err_and}
use Rattle.gm_ecql.specs.Test.{test_seen}
use Rattle.gm_ecql.specs.Token.{seen_all}
use Rattle.gm_ecql.proofs.TestSteps.{test_shorter, named_is, named_halts, ids_are, ids_halt}
use Rattle.gm_ecql.proofs.TestSteps.{lone_is, gives_or, shorter_or}
use Rattle.gm_ecql.proofs.Turns.{seen_length}
use Rattle.gm_ecql.proofs.test_reader.test_at.Goals as goal

pub returns-in_err-asked-clause-value : goal.returns-in_err-asked-clause-value
returns-in_err-asked-clause-value c =
    let p = err_from_is_err_and c.from_residual.result c.from_residual.ensures.1 in
    rw (p.1, p.2) (named_halts (seen_all c.args.tokens.now) c.in-Some.name.now
    (seen_all c.in-Some.rest.now) c.in_err-asked.field-0.0 (sym c.in-Some.ensures)
    c.in_err-asked.ensures)

pub returns-in-Some-clause-value : goal.returns-in-Some-clause-value
returns-in-Some-clause-value c =
    named_is (seen_all c.args.tokens.now) c.in-Some.name.now (seen_all c.in-Some.rest.now) _
    (sym c.in-Some.ensures) c.in_ok-asked.ensures

pub returns-in-Some-clause-shorter : goal.returns-in-Some-clause-shorter
returns-in-Some-clause-shorter c =
    let less = test_shorter (seen_all c.args.tokens.now) _
    (named_is (seen_all c.args.tokens.now) c.in-Some.name.now (seen_all c.in-Some.rest.now) _
    (sym c.in-Some.ensures) c.in_ok-asked.ensures) in
    let fewer : length (seen_all c.in_ok-asked.rest.now) < length (seen_all c.args.tokens.now) =
    less in
    omega (arith, fewer, seen_length c.in_ok-asked.rest.now, seen_length c.args.tokens.now)

pub returns-in_err-texts-clause-value : goal.returns-in_err-texts-clause-value
returns-in_err-texts-clause-value c =
    let p = err_from_is_err_and c.from_residual-in_err-texts.result
    c.from_residual-in_err-texts.ensures.1 in
    rw (p.1, p.2) (ids_halt (seen_all c.args.tokens.now) (seen_all c.in-Some-after_keyword.rest.now)
    c.in_err-texts.field-0.0 (sym c.in_default.ensures)
    (sym c.in-Some-after_keyword.ensures.value) c.in_err-texts.ensures)

pub returns-in-Some-after_keyword-clause-value : goal.returns-in-Some-after_keyword-clause-value
returns-in-Some-after_keyword-clause-value c =
    ids_are (seen_all c.args.tokens.now) (seen_all c.in-Some-after_keyword.rest.now) _
    (sym c.in_default.ensures) (sym c.in-Some-after_keyword.ensures.value) c.in_ok-texts.ensures

pub returns-in-Some-after_keyword-clause-shorter : goal.returns-in-Some-after_keyword-clause-shorter
returns-in-Some-after_keyword-clause-shorter c =
    let less = test_shorter (seen_all c.args.tokens.now) _
    (ids_are (seen_all c.args.tokens.now) (seen_all c.in-Some-after_keyword.rest.now) _
    (sym c.in_default.ensures) (sym c.in-Some-after_keyword.ensures.value)
    c.in_ok-texts.ensures) in
    let fewer : length (seen_all c.in_ok-texts.rest.now) < length (seen_all c.args.tokens.now) =
    less in
    omega (arith, fewer, seen_length c.in_ok-texts.rest.now, seen_length c.args.tokens.now)

pub returns-clause-value : goal.returns-clause-value
returns-clause-value c =
    rw c.ok_or.ensures.value
    (gives_or (λ x. (test_seen x.0, seen_all x.1.now)) c.lone_test_at.result _
    (c.lone_test_at.ensures
    ∙ sym (lone_is (seen_all c.args.tokens.now) (sym c.in_default.ensures)
    (sym c.in_default-after_keyword.ensures.value))))

pub returns-clause-shorter : goal.returns-clause-shorter
returns-clause-shorter c =
    rw c.ok_or.ensures.value
    (shorter_or (λ x. (test_seen x.0, seen_all x.1.now)) (λ x. length x.1.now)
    (λ x. seen_length x.1.now) (seen_all c.args.tokens.now) (length c.args.tokens.now)
    (seen_length c.args.tokens.now) c.lone_test_at.result
    (c.lone_test_at.ensures
    ∙ sym (lone_is (seen_all c.args.tokens.now) (sym c.in_default.ensures)
    (sym c.in_default-after_keyword.ensures.value))))
