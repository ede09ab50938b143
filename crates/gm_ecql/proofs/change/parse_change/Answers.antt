use Rattle.std.proofs.Common.{◌≡◌, Some}
use Rattle.std.proofs.lemmas.Result.{err_from_is_err_and}
use Rattle.gm_ecql.specs.Change.{assigned_seen, given_seen, assignment_tokens_at}
use Rattle.gm_ecql.specs.Judging.{found_seen, faults_seen}
use Rattle.gm_ecql.specs.Token.{seen_all}
use Rattle.gm_ecql.proofs.ChangeSteps.{seen_none, seen_some, front_halts, assigned_halts}
use Rattle.gm_ecql.proofs.ChangeSteps.{filter_halts, change_found, no_change}
use Rattle.gm_ecql.proofs.ChangesRead.{change_sound}
use Rattle.gm_ecql.proofs.change.parse_change.Goals as goal

pub returns-in_err-name-clause-value : goal.returns-in_err-name-clause-value
returns-in_err-name-clause-value c =
    let p = err_from_is_err_and c.from_residual.result c.from_residual.ensures.1 in
    rw (p.1, p.2) (front_halts c.args.of.now (seen_all c.args.tokens.now) c.in_err-name.field-0.0
    (seen_none c.assignment_at.result (assignment_tokens_at (seen_all c.args.tokens.now))
    c.assignment_at.ensures.value c.in_err-name.ensures.ok_part))

pub returns-in_err-name-clause-none : goal.returns-in_err-name-clause-none
returns-in_err-name-clause-none c =
    let p = err_from_is_err_and c.from_residual.result c.from_residual.ensures.1 in
    rw (p.1, p.2) (no_change c.args.of.now (seen_all c.args.tokens.now) c.in_err-name.field-0.0
    (front_halts c.args.of.now (seen_all c.args.tokens.now) c.in_err-name.field-0.0
    (seen_none c.assignment_at.result (assignment_tokens_at (seen_all c.args.tokens.now))
    c.assignment_at.ensures.value c.in_err-name.ensures.ok_part)))

pub returns-in_err-assigned-clause-value : goal.returns-in_err-assigned-clause-value
returns-in_err-assigned-clause-value c =
    let front : assignment_tokens_at (seen_all c.args.tokens.now)
    ≡ Some (c.in_ok-name.name.now, (given_seen c.in_ok-name.given, seen_all c.in_ok-name.rest.now))
    = seen_some c.assignment_at.result (assignment_tokens_at (seen_all c.args.tokens.now))
    (c.in_ok-name.name, c.in_ok-name.given, c.in_ok-name.rest) c.assignment_at.ensures.value
    c.in_ok-name.ensures.ok_part in
    let p = err_from_is_err_and c.from_residual-in_err-assigned.result
    c.from_residual-in_err-assigned.ensures.1 in
    rw (p.1, p.2) (assigned_halts c.args.of.now (seen_all c.args.tokens.now) c.in_ok-name.name.now
    (given_seen c.in_ok-name.given) (seen_all c.in_ok-name.rest.now) c.in_err-assigned.field-0.0
    front c.in_err-assigned.ensures)

pub returns-in_err-assigned-clause-none : goal.returns-in_err-assigned-clause-none
returns-in_err-assigned-clause-none c =
    let front : assignment_tokens_at (seen_all c.args.tokens.now)
    ≡ Some (c.in_ok-name.name.now, (given_seen c.in_ok-name.given, seen_all c.in_ok-name.rest.now))
    = seen_some c.assignment_at.result (assignment_tokens_at (seen_all c.args.tokens.now))
    (c.in_ok-name.name, c.in_ok-name.given, c.in_ok-name.rest) c.assignment_at.ensures.value
    c.in_ok-name.ensures.ok_part in
    let p = err_from_is_err_and c.from_residual-in_err-assigned.result
    c.from_residual-in_err-assigned.ensures.1 in
    rw (p.1, p.2) (no_change c.args.of.now (seen_all c.args.tokens.now) c.in_err-assigned.field-0.0
    (assigned_halts c.args.of.now (seen_all c.args.tokens.now) c.in_ok-name.name.now
    (given_seen c.in_ok-name.given) (seen_all c.in_ok-name.rest.now) c.in_err-assigned.field-0.0
    front c.in_err-assigned.ensures))

pub returns-in_err-found-clause-value : goal.returns-in_err-found-clause-value
returns-in_err-found-clause-value c =
    let front : assignment_tokens_at (seen_all c.args.tokens.now)
    ≡ Some (c.in_ok-name.name.now, (given_seen c.in_ok-name.given, seen_all c.in_ok-name.rest.now))
    = seen_some c.assignment_at.result (assignment_tokens_at (seen_all c.args.tokens.now))
    (c.in_ok-name.name, c.in_ok-name.given, c.in_ok-name.rest) c.assignment_at.ensures.value
    c.in_ok-name.ensures.ok_part in
    let p = err_from_is_err_and c.from_residual-in_err-found.result
    c.from_residual-in_err-found.ensures.1 in
    rw (p.1, p.2) (filter_halts c.args.of.now (seen_all c.args.tokens.now) c.in_ok-name.name.now
    (given_seen c.in_ok-name.given) (seen_all c.in_ok-name.rest.now)
    (assigned_seen c.in_ok-assigned.assigned) c.in_err-found.field-0.0 front
    c.in_ok-assigned.ensures c.in_err-found.ensures.value)

pub returns-in_err-found-clause-none : goal.returns-in_err-found-clause-none
returns-in_err-found-clause-none c =
    let front : assignment_tokens_at (seen_all c.args.tokens.now)
    ≡ Some (c.in_ok-name.name.now, (given_seen c.in_ok-name.given, seen_all c.in_ok-name.rest.now))
    = seen_some c.assignment_at.result (assignment_tokens_at (seen_all c.args.tokens.now))
    (c.in_ok-name.name, c.in_ok-name.given, c.in_ok-name.rest) c.assignment_at.ensures.value
    c.in_ok-name.ensures.ok_part in
    let p = err_from_is_err_and c.from_residual-in_err-found.result
    c.from_residual-in_err-found.ensures.1 in
    rw (p.1, p.2) (no_change c.args.of.now (seen_all c.args.tokens.now) c.in_err-found.field-0.0
    (filter_halts c.args.of.now (seen_all c.args.tokens.now) c.in_ok-name.name.now
    (given_seen c.in_ok-name.given) (seen_all c.in_ok-name.rest.now)
    (assigned_seen c.in_ok-assigned.assigned) c.in_err-found.field-0.0 front
    c.in_ok-assigned.ensures c.in_err-found.ensures.value))

pub returns-clause-value : goal.returns-clause-value
returns-clause-value c =
    let front : assignment_tokens_at (seen_all c.args.tokens.now)
    ≡ Some (c.in_ok-name.name.now, (given_seen c.in_ok-name.given, seen_all c.in_ok-name.rest.now))
    = seen_some c.assignment_at.result (assignment_tokens_at (seen_all c.args.tokens.now))
    (c.in_ok-name.name, c.in_ok-name.given, c.in_ok-name.rest) c.assignment_at.ensures.value
    c.in_ok-name.ensures.ok_part in
    (change_found c.args.of.now (seen_all c.args.tokens.now) c.in_ok-name.name.now
    (given_seen c.in_ok-name.given) (seen_all c.in_ok-name.rest.now)
    (assigned_seen c.in_ok-assigned.assigned) (found_seen c.in_ok-found.found)
    (faults_seen c.first_faults-faults.result)
    front c.in_ok-assigned.ensures c.in_ok-found.ensures.value c.first_faults-faults.ensures)

pub returns-clause-found : goal.returns-clause-found
returns-clause-found c =
    let front : assignment_tokens_at (seen_all c.args.tokens.now)
    ≡ Some (c.in_ok-name.name.now, (given_seen c.in_ok-name.given, seen_all c.in_ok-name.rest.now))
    = seen_some c.assignment_at.result (assignment_tokens_at (seen_all c.args.tokens.now))
    (c.in_ok-name.name, c.in_ok-name.given, c.in_ok-name.rest) c.assignment_at.ensures.value
    c.in_ok-name.ensures.ok_part in
    change_sound c.args.of.now (seen_all c.args.tokens.now) _
    (change_found c.args.of.now (seen_all c.args.tokens.now) c.in_ok-name.name.now
    (given_seen c.in_ok-name.given) (seen_all c.in_ok-name.rest.now)
    (assigned_seen c.in_ok-assigned.assigned) (found_seen c.in_ok-found.found)
    (faults_seen c.first_faults-faults.result)
    front c.in_ok-assigned.ensures c.in_ok-found.ensures.value c.first_faults-faults.ensures)
