use Rattle.std.proofs.Common.{◌<◌, length, Some, sym, ◌∙◌, ap, arith, true, false}
use Rattle.std.proofs.lemmas.Result.{err_from_is_err_and}
use Rattle.gm_ecql.specs.declared.token.Symbol.TheVariants as symbol
use Rattle.gm_ecql.specs.Reader.{◌>>=◌, after_symbol, constant_at, constants_at, separator_at}
use Rattle.gm_ecql.specs.Reader.{members_at}
use Rattle.gm_ecql.specs.Test.{constant_seen}
use Rattle.gm_ecql.specs.Token.{seen_all}
use Rattle.gm_ecql.proofs.Gathering.{gathering_start, gathering_more, gathering_end}
use Rattle.gm_ecql.proofs.Gathering.{gathering_none, gathering_open, map_push, not_there, there}
use Rattle.gm_ecql.proofs.Gathering.{halts_none, constant_turn}
use Rattle.gm_ecql.proofs.Turns.{seen_length}
use Rattle.gm_ecql.proofs.test_reader.constants_at.Goals as goal

pub returns-in_err-rest : goal.returns-in_err-rest
returns-in_err-rest c =
    let p = err_from_is_err_and c.from_residual.result c.from_residual.ensures.1 in
    rw (p.1, p.2) (halts_none (constants_at (seen_all c.args.tokens.now)) c.after_symbol.result
    c.in_err-rest.field-0.0 c.in_err-rest.ensures.value
    (λ e. ap (λ o. o >>= (λ inside. members_at constant_at (length inside) inside))
    (not_there (λ r. seen_all r.now) c.after_symbol.result _ c.after_symbol.ensures.value e)))

pub constants-init : goal.constants-init
constants-init c =
    rw c.new-constants.ensures.items
    (gathering_start constant_at (seen_all c.args.tokens.now) (seen_all c.in_ok-rest.rest.now)
    (there (λ r. seen_all r.now) c.after_symbol.result _ c.in_ok-rest.rest
    c.after_symbol.ensures.value c.in_ok-rest.ensures.ok_part))

pub returns-in_err-constant : goal.returns-in_err-constant
returns-in_err-constant c =
    let p = err_from_is_err_and c.from_residual-in_err-constant.result
    c.from_residual-in_err-constant.ensures.1 in
    rw (p.1, p.2) (halts_none (constants_at (seen_all c.args.tokens.now)) c.constant_at.result
    c.in_err-constant.field-0.0 c.in_err-constant.ensures.value
    (λ e. gathering_none constant_at _ (seen_all c.constants.rest.now) _
    (not_there _ c.constant_at.result _ c.constant_at.ensures e) c.constants.invariant))

pub returns-in_err-more : goal.returns-in_err-more
returns-in_err-more c =
    let p = err_from_is_err_and c.from_residual-in_err-more.result
    c.from_residual-in_err-more.ensures.1 in
    let found = there _ c.constant_at.result _ (c.in_ok-constant.constant, c.in_ok-constant.after)
    c.constant_at.ensures c.in_ok-constant.ensures.ok_part in
    rw (p.1, p.2) (halts_none (constants_at (seen_all c.args.tokens.now)) c.separator_at.result
    c.in_err-more.field-0.0 c.in_err-more.ensures.value
    (λ e. gathering_open constant_at _ (seen_all c.constants.rest.now)
    (seen_all c.in_ok-constant.after.now) _ _ found
    (not_there _ c.separator_at.result _ c.separator_at.ensures e) c.constants.invariant))

pub constants-smaller : goal.constants-smaller
constants-smaller c =
    let found = there _ c.constant_at.result _ (c.in_ok-constant.constant, c.in_ok-constant.after)
    c.constant_at.ensures c.in_ok-constant.ensures.ok_part in
    let cut = there _ c.separator_at.result _ (c.in_ok-more.more, c.in_ok-more.later)
    c.separator_at.ensures c.in_ok-more.ensures.ok_part in
    let fewer : length (seen_all c.in_ok-more.later.now) < length (seen_all c.constants.rest.now) =
    constant_turn _ _ _ _ _ found cut in
    omega (arith, fewer, seen_length c.constants.rest.now, seen_length c.in_ok-more.later.now)

pub constants-preserved : goal.constants-preserved
constants-preserved c =
    let found = there _ c.constant_at.result _ (c.in_ok-constant.constant, c.in_ok-constant.after)
    c.constant_at.ensures c.in_ok-constant.ensures.ok_part in
    let cut = there _ c.separator_at.result _ (c.in_ok-more.more, c.in_ok-more.later)
    c.separator_at.ensures c.in_ok-more.ensures.ok_part in
    let fewer : length (seen_all c.in_ok-more.later.now) < length (seen_all c.constants.rest.now) =
    constant_turn _ _ _ _ _ found cut in
    rw (map_push constant_seen _ _ _ c.in_ok-push.ensures.items)
    (gathering_more constant_at _ (seen_all c.constants.rest.now)
    (seen_all c.in_ok-constant.after.now) (seen_all c.in_ok-more.later.now) _ _ found
    (cut ∙ ap (λ b. Some (b, seen_all c.in_ok-more.later.now)) c.if-not-more.false) fewer
    c.constants.invariant)

pub returns-then-not-more : goal.returns-then-not-more
returns-then-not-more c =
    let found = there _ c.constant_at.result _ (c.in_ok-constant.constant, c.in_ok-constant.after)
    c.constant_at.ensures c.in_ok-constant.ensures.ok_part in
    let cut = there _ c.separator_at.result _ (c.in_ok-more.more, c.in_ok-more.later)
    c.separator_at.ensures c.in_ok-more.ensures.ok_part in
    let fewer : length (seen_all c.in_ok-more.later.now) < length (seen_all c.constants.rest.now) =
    constant_turn _ _ _ _ _ found cut in
    gathering_end constant_at _ (seen_all c.constants.rest.now)
    (seen_all c.in_ok-constant.after.now) (seen_all c.in_ok-more.later.now) _ _ found
    (cut ∙ ap (λ b. Some (b, seen_all c.in_ok-more.later.now)) c.if-not-more.true) fewer
    c.constants.invariant
    ∙ ap (λ z. Some (z, seen_all c.in_ok-more.later.now))
    (sym (map_push constant_seen _ _ _ c.in_ok-push.ensures.items))
