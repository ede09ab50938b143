use Rattle.std.proofs.Common.{map, nat_lt, sym, refl, ap, ◌∙◌}
use Rattle.gm_ecql.specs.Token.{seen, seen_spaced}
use Rattle.gm_ecql.specs.Scanner.{token_at}
use Rattle.gm_ecql.proofs.Lists.{keeps_step, keeps_none, keeps_end, token_shorter}
use Rattle.gm_ecql.proofs.Lists.{mapped_push, empty_list, some_list}
use Rattle.gm_ecql.proofs.scanner.tokens_from.Goals as goal

pub tokens-smaller : goal.tokens-smaller
tokens-smaller c =
    token_shorter c.tokens.rest.now c.in-Some.after.now (seen c.in-Some.token)
    c.blank_count-count.result
    (ap token_at (sym c.split_at.ensures.back) ∙ sym c.in-Some.ensures)

pub tokens-preserved : goal.tokens-preserved
tokens-preserved c =
    keeps_step c.args.text.now c.tokens.rest.now c.in-Some.after.now
    (nat_lt 0 c.blank_count-count.result) (seen c.in-Some.token) c.blank_count-count.result
    (map seen_spaced c.tokens.found.items) (map seen_spaced c.push.new.self.items)
    (some_list c.tokens.rest.now c.is_empty.result c.is_empty.ensures c.tokens-test.true)
    c.blank_count-count.ensures.value c.blank_count-count.ensures.within refl
    (ap token_at (sym c.split_at.ensures.back) ∙ sym c.in-Some.ensures)
    (mapped_push seen_spaced c.tokens.found.items c.push.new.self.items _
    c.in_default-push.ensures.items) c.tokens.invariant

pub returns-clause-found : goal.returns-clause-found
returns-clause-found c =
    keeps_end c.args.text.now c.tokens.rest.now (map seen_spaced c.tokens.found.items)
    (empty_list c.tokens.rest.now c.is_empty.result c.is_empty.ensures c.tokens-test.false)
    c.tokens.invariant

pub returns-in_default-clause-none : goal.returns-in_default-clause-none
returns-in_default-clause-none c = λ _ ts s.
    keeps_none c.args.text.now c.tokens.rest.now c.blank_count-count.result
    (map seen_spaced c.tokens.found.items) ts
    (some_list c.tokens.rest.now c.is_empty.result c.is_empty.ensures c.tokens-test.true)
    c.blank_count-count.ensures.value
    (ap token_at (sym c.split_at.ensures.back) ∙ sym c.in_default.ensures) c.tokens.invariant s
