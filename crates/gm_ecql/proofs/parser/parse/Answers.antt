use Rattle.std.proofs.Common.{◌≤◌, length, arith}
use Rattle.std.proofs.lemmas.Result.{err_from_is_err_and}
use Rattle.gm_ecql.specs.Judging.{found_seen}
use Rattle.gm_ecql.specs.Token.{seen_all}
use Rattle.gm_ecql.proofs.DocumentSteps.{found_is, none_is, filter_halts, more_is}
use Rattle.gm_ecql.proofs.Turns.{seen_length}
use Rattle.gm_ecql.proofs.parser.parse.Goals as goal

pub returns-in_err-found-clause-none : goal.returns-in_err-found-clause-none
returns-in_err-found-clause-none c =
    let p = err_from_is_err_and c.from_residual.result c.from_residual.ensures.1 in
    let few : length c.args.tokens.now ≤ length (seen_all c.args.tokens.now) =
    omega (arith, seen_length c.args.tokens.now) in
    rw (p.1, p.2) (none_is c.args.of.now (seen_all c.args.tokens.now) c.in_err-found.field-0.0
    (filter_halts c.args.of.now (seen_all c.args.tokens.now) c.in_err-found.field-0.0
    (c.in_err-found.ensures.value (length (seen_all c.args.tokens.now)) few)))

pub returns-then-not-is_empty-clause-value : goal.returns-then-not-is_empty-clause-value
returns-then-not-is_empty-clause-value c =
    let few : length c.args.tokens.now ≤ length (seen_all c.args.tokens.now) =
    omega (arith, seen_length c.args.tokens.now) in
    more_is c.args.of.now (seen_all c.args.tokens.now) (found_seen c.in_ok-found.found)
    c.in_ok-found.rest.now
    (c.in_ok-found.ensures.value (length (seen_all c.args.tokens.now)) few)
    c.is_empty.result c.is_empty.ensures c.if-not-is_empty.true

pub returns-then-not-is_empty-clause-none : goal.returns-then-not-is_empty-clause-none
returns-then-not-is_empty-clause-none c =
    let few : length c.args.tokens.now ≤ length (seen_all c.args.tokens.now) =
    omega (arith, seen_length c.args.tokens.now) in
    none_is c.args.of.now (seen_all c.args.tokens.now) _
    (more_is c.args.of.now (seen_all c.args.tokens.now) (found_seen c.in_ok-found.found)
    c.in_ok-found.rest.now
    (c.in_ok-found.ensures.value (length (seen_all c.args.tokens.now)) few)
    c.is_empty.result c.is_empty.ensures c.if-not-is_empty.true)

pub returns-clause-found : goal.returns-clause-found
returns-clause-found c =
    let few : length c.args.tokens.now ≤ length (seen_all c.args.tokens.now) =
    omega (arith, seen_length c.args.tokens.now) in
    found_is c.args.of.now (seen_all c.args.tokens.now) (found_seen c.in_ok-found.found)
    c.in_ok-found.rest.now
    (c.in_ok-found.ensures.value (length (seen_all c.args.tokens.now)) few)
    c.is_empty.result c.is_empty.ensures c.if-not-is_empty.false
