use Rattle.std.proofs.Common.{◌∙◌, None, subst}
use Rattle.gm_filter.specs.Tree.{tree}
use Rattle.gm_script.specs.Order.{Asked, asked_by}
use Rattle.gm_program.specs.declared.execute.matched.Matched.{Matched}
use Rattle.gm_program.specs.Matched.{IsAnswer, IsMatched}
use Rattle.gm_program.specs.Step.{plain, removed}
use Rattle.gm_program.proofs.Exchanging.{refused_plain, exchanges_fit, exchanges_apart, gives_none}
use Rattle.gm_program.proofs.Exchanging.{remove_reply}
use Rattle.gm_program.proofs.Planned.{type_of}
use Rattle.gm_program.proofs.execute.remove.remove_of.Goals as goal

pub batch_of_all-requires-clause-fit : goal.batch_of_all-requires-clause-fit
batch_of_all-requires-clause-fit g c =
    let t = c.args.of.now in
    let s = c.requires.typed.0 in
    let own = c.requires.typed.1 in
    let wanted = tree c.args.ask.now.filter in
    let before = g.B.Tally.Counter.number c.args.tally.now in
    let after = g.B.Tally.Counter.number c.matching.new.tally in
    let features = c.in-Features.features in
    let matched = subst (λ (m : Matched). IsMatched s t (asked_by c.args.ask.now) before after m)
    c.in-Features.is (c.in_ok-code.ensures s own) in
    let found = subst (λ (a : Asked). IsAnswer s t a features c.in-Features.field-1 before after)
    c.requires.plain matched in
    exchanges_fit s t (g.B.Sorted.rows c.args.table.now) (λ _. None) wanted features
    c.as_slice.result.now c.in-Features.field-1 before after own (gives_none s t.number t) found
    (c.as_slice.ensures ∙ c.in_ok-exchanges-in-Features.ensures)

pub batch_of_all-requires-clause-apart : goal.batch_of_all-requires-clause-apart
batch_of_all-requires-clause-apart g c =
    let t = c.args.of.now in
    let s = c.requires.typed.0 in
    let own = c.requires.typed.1 in
    let wanted = tree c.args.ask.now.filter in
    let before = g.B.Tally.Counter.number c.args.tally.now in
    let after = g.B.Tally.Counter.number c.matching.new.tally in
    let features = c.in-Features.features in
    let matched = subst (λ (m : Matched). IsMatched s t (asked_by c.args.ask.now) before after m)
    c.in-Features.is (c.in_ok-code.ensures s own) in
    let found = subst (λ (a : Asked). IsAnswer s t a features c.in-Features.field-1 before after)
    c.requires.plain matched in
    exchanges_apart s t (g.B.Sorted.rows c.args.table.now) (λ _. None) wanted features
    c.as_slice.result.now c.in-Features.field-1 before after own found
    (c.as_slice.ensures ∙ c.in_ok-exchanges-in-Features.ensures)

pub returns-in-Refused : goal.returns-in-Refused
returns-in-Refused g c = λ s types holds typed.
    let t = c.args.of.now in
    let wanted = tree c.args.ask.now.filter in
    let rows = g.B.Sorted.rows c.args.table.now in
    let before = g.B.Tally.Counter.number c.args.tally.now in
    let after = g.B.Tally.Counter.number c.matching.new.tally in
    let matched = subst (λ (m : Matched). IsMatched s t (asked_by c.args.ask.now) before after m)
    c.in-Refused.is (c.in_ok-code.ensures s (type_of s t types rows holds typed)) in
    refused_plain s t (asked_by c.args.ask.now) wanted (removed (plain t.number wanted) s)
    c.in-Refused.code types rows before after
    ((g.met.B.Tally.Counter g.world.𝓛 g.world.𝓜 g.world.𝓡
    ((λ s x. x), (λ x. x), (λ x. x), λ x. x)).fits c.args.tally.now)
    holds typed c.requires.plain matched.0 matched.1

pub returns-in_ok-apply-in-Features : goal.returns-in_ok-apply-in-Features
returns-in_ok-apply-in-Features g c = λ s types holds typed.
    let t = c.args.of.now in
    let wanted = tree c.args.ask.now.filter in
    let rows = g.B.Sorted.rows c.args.table.now in
    let now = g.B.Sorted.rows c.apply.new.self in
    let before = g.B.Tally.Counter.number c.args.tally.now in
    let after = g.B.Tally.Counter.number c.matching.new.tally in
    let features = c.in-Features.features in
    let matched = subst (λ (m : Matched). IsMatched s t (asked_by c.args.ask.now) before after m)
    c.in-Features.is (c.in_ok-code.ensures s (type_of s t types rows holds typed)) in
    let found = subst (λ (a : Asked). IsAnswer s t a features c.in-Features.field-1 before after)
    c.requires.plain matched in
    remove_reply c.rows_follow_exchanges.ensures.rows c.rows_follow_exchanges.ensures.counted
    c.exchanges_keep_the_state.ensures.state c.exchanges_keep_the_state.ensures.types
    c.same_at_each_key.ensures c.rows_are_of_features.ensures.rising s t wanted features
    c.as_slice.result.now c.in-Features.field-1 before after c.len-count.result types rows now
    c.in_ok-batch-in-Features.batch.removes c.in_ok-batch-in-Features.batch.puts holds typed found
    (c.as_slice.ensures ∙ c.in_ok-exchanges-in-Features.ensures) c.len-count.ensures
    c.in_ok-batch-in-Features.ensures.removes c.in_ok-batch-in-Features.ensures.puts
    (g.met.B.Sorted.rising c.apply.new.self) c.in_ok-apply-in-Features.ensures.ok
