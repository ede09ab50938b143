use Rattle.std.proofs.Common.{map, sym, ap, ◌∙◌}
use Rattle.gm_ecql.specs.Limits.{are_numbers_apart}
use Rattle.gm_ecql.specs.Token.{seen_spaced, seen_all}
use Rattle.gm_ecql.proofs.Outcomes.{unspaced_seen}
use Rattle.gm_ecql.proofs.Steps.{over_limits, too_close, all_kept}
use Rattle.gm_ecql.proofs.reader.sound_tokens.Goals as goal

pub returns-then-not-are_within : goal.returns-then-not-are_within
returns-then-not-are_within c =
    let items = c.in_ok-tokens.tokens.items in
    over_limits c.args.text.now (map seen_spaced items) (seen_all c.deref.result.now)
    c.are_within.result c.in_ok-tokens.ensures.value
    (unspaced_seen items ∙ ap seen_all (sym c.deref.ensures.value)) c.are_within.ensures
    c.if-not-are_within.true

pub returns-then-not-are_numbers_apart : goal.returns-then-not-are_numbers_apart
returns-then-not-are_numbers_apart c =
    let items = c.in_ok-tokens.tokens.items in
    too_close c.args.text.now (map seen_spaced items) (seen_all c.deref.result.now)
    c.are_within.result c.are_numbers_apart.result c.in_ok-tokens.ensures.value
    (unspaced_seen items ∙ ap seen_all (sym c.deref.ensures.value)) c.are_within.ensures
    c.if-not-are_within.false
    (c.are_numbers_apart.ensures
    ∙ ap (λ z. are_numbers_apart (map seen_spaced z)) c.deref-2.ensures.value)
    c.if-not-are_numbers_apart.true

pub returns : goal.returns
returns c =
    let items = c.in_ok-tokens.tokens.items in
    all_kept c.args.text.now (map seen_spaced items) (seen_all c.deref.result.now)
    c.are_within.result c.are_numbers_apart.result c.in_ok-tokens.ensures.value
    (unspaced_seen items ∙ ap seen_all (sym c.deref.ensures.value)) c.are_within.ensures
    c.if-not-are_within.false
    (c.are_numbers_apart.ensures
    ∙ ap (λ z. are_numbers_apart (map seen_spaced z)) c.deref-2.ensures.value)
    c.if-not-are_numbers_apart.false
