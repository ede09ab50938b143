use Rattle.std.proofs.Common.{◌<◌, length, Some, sym, ◌∙◌, ap, arith, true, false}
use Rattle.std.proofs.lemmas.Result.{err_from_is_err_and}
use Rattle.gm_ecql.specs.declared.token.Symbol.TheVariants as symbol
use Rattle.gm_ecql.specs.Reader.{◌>>=◌, after_symbol, text_at, texts_at, separator_at, members_at}
use Rattle.gm_ecql.specs.Token.{seen_all, undoubled}
use Rattle.gm_ecql.proofs.Gathering.{gathering_start, gathering_more, gathering_end}
use Rattle.gm_ecql.proofs.Gathering.{gathering_none, gathering_open, map_push, not_there, there}
use Rattle.gm_ecql.proofs.Gathering.{halts_none, text_turn}
use Rattle.gm_ecql.proofs.Turns.{seen_length}
use Rattle.gm_ecql.proofs.test_reader.texts_at.Goals as goal

pub returns-in_err-rest : goal.returns-in_err-rest
returns-in_err-rest c =
    let p = err_from_is_err_and c.from_residual.result c.from_residual.ensures.1 in
    rw (p.1, p.2) (halts_none (texts_at (seen_all c.args.tokens.now)) c.after_symbol.result
    c.in_err-rest.field-0.0 c.in_err-rest.ensures.value
    (λ e. ap (λ o. o >>= (λ inside. members_at text_at (length inside) inside))
    (not_there (λ r. seen_all r.now) c.after_symbol.result _ c.after_symbol.ensures.value e)))

pub texts-init : goal.texts-init
texts-init c =
    rw c.new-texts.ensures.items
    (gathering_start text_at (seen_all c.args.tokens.now) (seen_all c.in_ok-rest.rest.now)
    (there (λ r. seen_all r.now) c.after_symbol.result _ c.in_ok-rest.rest
    c.after_symbol.ensures.value c.in_ok-rest.ensures.ok_part))

pub returns-in_err-text : goal.returns-in_err-text
returns-in_err-text c =
    let p = err_from_is_err_and c.from_residual-in_err-text.result
    c.from_residual-in_err-text.ensures.1 in
    rw (p.1, p.2) (halts_none (texts_at (seen_all c.args.tokens.now)) c.text_at.result
    c.in_err-text.field-0.0 c.in_err-text.ensures.value
    (λ e. gathering_none text_at _ (seen_all c.texts.rest.now) _
    (not_there _ c.text_at.result _ c.text_at.ensures e) c.texts.invariant))

pub returns-in_err-more : goal.returns-in_err-more
returns-in_err-more c =
    let p = err_from_is_err_and c.from_residual-in_err-more.result
    c.from_residual-in_err-more.ensures.1 in
    let found = there _ c.text_at.result _ (c.in_ok-text.text, c.in_ok-text.after) c.text_at.ensures
    c.in_ok-text.ensures.ok_part in
    rw (p.1, p.2) (halts_none (texts_at (seen_all c.args.tokens.now)) c.separator_at.result
    c.in_err-more.field-0.0 c.in_err-more.ensures.value
    (λ e. gathering_open text_at _ (seen_all c.texts.rest.now) (seen_all c.in_ok-text.after.now) _ _
    found (not_there _ c.separator_at.result _ c.separator_at.ensures e) c.texts.invariant))

pub texts-smaller : goal.texts-smaller
texts-smaller c =
    let found = there _ c.text_at.result _ (c.in_ok-text.text, c.in_ok-text.after) c.text_at.ensures
    c.in_ok-text.ensures.ok_part in
    let cut = there _ c.separator_at.result _ (c.in_ok-more.more, c.in_ok-more.later)
    c.separator_at.ensures c.in_ok-more.ensures.ok_part in
    let fewer : length (seen_all c.in_ok-more.later.now) < length (seen_all c.texts.rest.now) =
    text_turn _ _ _ _ _ found cut in
    omega (arith, fewer, seen_length c.texts.rest.now, seen_length c.in_ok-more.later.now)

pub texts-preserved : goal.texts-preserved
texts-preserved c =
    let found = there _ c.text_at.result _ (c.in_ok-text.text, c.in_ok-text.after) c.text_at.ensures
    c.in_ok-text.ensures.ok_part in
    let cut = there _ c.separator_at.result _ (c.in_ok-more.more, c.in_ok-more.later)
    c.separator_at.ensures c.in_ok-more.ensures.ok_part in
    let fewer : length (seen_all c.in_ok-more.later.now) < length (seen_all c.texts.rest.now) =
    text_turn _ _ _ _ _ found cut in
    rw (map_push (λ t. undoubled t.now) _ _ _ c.in_ok-push.ensures.items)
    (gathering_more text_at _ (seen_all c.texts.rest.now) (seen_all c.in_ok-text.after.now)
    (seen_all c.in_ok-more.later.now) _ _ found
    (cut ∙ ap (λ b. Some (b, seen_all c.in_ok-more.later.now)) c.if-not-more.false) fewer
    c.texts.invariant)

pub returns-then-not-more : goal.returns-then-not-more
returns-then-not-more c =
    let found = there _ c.text_at.result _ (c.in_ok-text.text, c.in_ok-text.after) c.text_at.ensures
    c.in_ok-text.ensures.ok_part in
    let cut = there _ c.separator_at.result _ (c.in_ok-more.more, c.in_ok-more.later)
    c.separator_at.ensures c.in_ok-more.ensures.ok_part in
    let fewer : length (seen_all c.in_ok-more.later.now) < length (seen_all c.texts.rest.now) =
    text_turn _ _ _ _ _ found cut in
    gathering_end text_at _ (seen_all c.texts.rest.now) (seen_all c.in_ok-text.after.now)
    (seen_all c.in_ok-more.later.now) _ _ found
    (cut ∙ ap (λ b. Some (b, seen_all c.in_ok-more.later.now)) c.if-not-more.true) fewer
    c.texts.invariant
    ∙ ap (λ z. Some (z, seen_all c.in_ok-more.later.now))
    (sym (map_push (λ t. undoubled t.now) _ _ _ c.in_ok-push.ensures.items))
