use Rattle.std.proofs.Common.{sym}
use Rattle.std.proofs.lemmas.Result.{err_from_is_err_and}
use Rattle.gm_types.specs.Reader.{value_if, option_with}
use Rattle.gm_types.specs.Words.{is_key, is_bare}
use Rattle.gm_types.proofs.ReadParts.{stopped, option_refused, option_without_key}
use Rattle.gm_types.proofs.ReadParts.{option_without_value, option_taken}
use Rattle.gm_types.proofs.attribute_reader.option_with.Goals as goal

pub returns-then-not-may_have : goal.returns-then-not-may_have
returns-then-not-may_have c =
    option_refused c.args.kind c.args.key.now c.args.value.now (sym c.if-not-may_have.ensures)

pub returns-in_err-key : goal.returns-in_err-key
returns-in_err-key c =
    let p = err_from_is_err_and c.from_residual.result c.from_residual.ensures.1 in
    rw (p.1, p.2)
    (stopped (option_with c.args.kind c.args.key.now c.args.value.now)
    (value_if (is_key c.args.key.now) c.args.key.now)
    c.in_err-key.field-0.0 c.in_err-key.ensures
    (option_without_key c.args.kind c.args.key.now c.args.value.now
    (sym c.if-not-may_have.ensures)))

pub returns-in_err-value : goal.returns-in_err-value
returns-in_err-value c =
    let p = err_from_is_err_and c.from_residual-in_err-value.result
    c.from_residual-in_err-value.ensures.1 in
    rw (p.1, p.2)
    (stopped (option_with c.args.kind c.args.key.now c.args.value.now)
    (value_if (is_bare c.args.value.now) c.args.value.now)
    c.in_err-value.field-0.0 c.in_err-value.ensures
    (option_without_value c.args.kind c.args.key.now c.args.value.now
    (sym c.if-not-may_have.ensures)))

pub returns : goal.returns
returns c =
    option_taken c.args.kind c.args.key.now c.args.value.now c.in_ok-key.key c.in_ok-value.value
    (sym c.if-not-may_have.ensures) c.in_ok-key.ensures c.in_ok-value.ensures
