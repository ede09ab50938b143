use Rattle.std.proofs.Common.{◌≡◌, ◌∙◌, ◌+◌, not, List, map, length, nat_le, sym, ap, subst}
use Rattle.gm_base.proofs.Booleans.{true_of_not, false_of_not}
use Rattle.gm_filter.specs.Tree.{tree}
use Rattle.gm_engine_rows.specs.declared.exchange.Exchange.{Exchange}
use Rattle.gm_engine_rows.specs.Exchange.{exchanged_in, old_keys}
use Rattle.gm_script.specs.Order.{Asked, asked_by}
use Rattle.gm_program.specs.declared.execute.matched.Matched.{Matched}
use Rattle.gm_program.specs.Limits.{has_too_many_rows}
use Rattle.gm_program.specs.Matched.{IsAnswer, IsMatched}
use Rattle.gm_program.specs.Question.{answer}
use Rattle.gm_program.specs.Step.{plain, given, modified}
use Rattle.gm_program.proofs.Exchanging.{refused_plain, exchanges_fit, exchanges_apart}
use Rattle.gm_program.proofs.Giving.{having, gives_value, features_fit, room_told, modify_full}
use Rattle.gm_program.proofs.Giving.{modify_reply}
use Rattle.gm_program.proofs.Planned.{type_of}
use Rattle.gm_program.proofs.execute.modify.modify_of.Goals as goal

pub changes-requires-clause-fit : goal.changes-requires-clause-fit
changes-requires-clause-fit g c =
    let t = c.args.of.now in
    let s = c.requires.typed.0 in
    let own = c.requires.typed.1 in
    let wanted = tree c.args.ask.now.filter in
    let before = g.B.Tally.Counter.number c.args.tally.now in
    let after = g.B.Tally.Counter.number c.matching.new.tally in
    let features = c.in-Features.features in
    let matched = subst (λ (m : Matched). IsMatched s t (asked_by c.args.ask.now) before after m)
    c.in-Features.is (c.in_ok-code.ensures s own) in
    let found = subst (λ (a : Asked). IsAnswer s t a features c.in-Features.field-1 before after)
    c.requires.plain matched in
    features_fit s t (g.B.Sorted.rows c.args.table.now) wanted features c.in-Features.field-1 before
    after own found

pub batch_of_all-requires-clause-fit : goal.batch_of_all-requires-clause-fit
batch_of_all-requires-clause-fit g c =
    let t = c.args.of.now in
    let place = c.args.attribute in
    let v = c.args.value.now in
    let s = c.requires.typed.0 in
    let own = c.requires.typed.1 in
    let wanted = tree c.args.ask.now.filter in
    let before = g.B.Tally.Counter.number c.args.tally.now in
    let after = g.B.Tally.Counter.number c.matching.new.tally in
    let features = c.in-Features.features in
    let matched = subst (λ (m : Matched). IsMatched s t (asked_by c.args.ask.now) before after m)
    c.in-Features.is (c.in_ok-code.ensures s own) in
    let found = subst (λ (a : Asked). IsAnswer s t a features c.in-Features.field-1 before after)
    c.requires.plain matched in
    exchanges_fit s t (g.B.Sorted.rows c.args.table.now) (having place v) wanted features
    c.as_slice.result.now c.in-Features.field-1 before after own
    (gives_value s t place v own.state own.typed c.requires.takes) found
    (c.as_slice.ensures ∙ c.in_ok-exchanges-in-Features.ensures)

pub batch_of_all-requires-clause-apart : goal.batch_of_all-requires-clause-apart
batch_of_all-requires-clause-apart g c =
    let t = c.args.of.now in
    let place = c.args.attribute in
    let v = c.args.value.now in
    let s = c.requires.typed.0 in
    let own = c.requires.typed.1 in
    let wanted = tree c.args.ask.now.filter in
    let before = g.B.Tally.Counter.number c.args.tally.now in
    let after = g.B.Tally.Counter.number c.matching.new.tally in
    let features = c.in-Features.features in
    let matched = subst (λ (m : Matched). IsMatched s t (asked_by c.args.ask.now) before after m)
    c.in-Features.is (c.in_ok-code.ensures s own) in
    let found = subst (λ (a : Asked). IsAnswer s t a features c.in-Features.field-1 before after)
    c.requires.plain matched in
    exchanges_apart s t (g.B.Sorted.rows c.args.table.now) (having place v) wanted features
    c.as_slice.result.now c.in-Features.field-1 before after own found
    (c.as_slice.ensures ∙ c.in_ok-exchanges-in-Features.ensures)

pub has_room-requires : goal.has_room-requires
has_room-requires g c =
    let t = c.args.of.now in
    let place = c.args.attribute in
    let v = c.args.value.now in
    let s = c.requires.typed.0 in
    let own = c.requires.typed.1 in
    let wanted = tree c.args.ask.now.filter in
    let before = g.B.Tally.Counter.number c.args.tally.now in
    let after = g.B.Tally.Counter.number c.matching.new.tally in
    let features = c.in-Features.features in
    let matched = subst (λ (m : Matched). IsMatched s t (asked_by c.args.ask.now) before after m)
    c.in-Features.is (c.in_ok-code.ensures s own) in
    let found = subst (λ (a : Asked). IsAnswer s t a features c.in-Features.field-1 before after)
    c.requires.plain matched in
    exchanges_fit s t (g.B.Sorted.rows c.args.table.now) (having place v) wanted features
    c.as_slice-in-Features.result.now c.in-Features.field-1 before after own
    (gives_value s t place v own.state own.typed c.requires.takes) found
    (c.as_slice-in-Features.ensures ∙ c.in_ok-exchanges-in-Features.ensures)

pub returns-in-Refused : goal.returns-in-Refused
returns-in-Refused g c = λ s types holds typed.
    let t = c.args.of.now in
    let place = c.args.attribute in
    let v = c.args.value.now in
    let wanted = tree c.args.ask.now.filter in
    let rows = g.B.Sorted.rows c.args.table.now in
    let before = g.B.Tally.Counter.number c.args.tally.now in
    let after = g.B.Tally.Counter.number c.matching.new.tally in
    let matched = subst (λ (m : Matched). IsMatched s t (asked_by c.args.ask.now) before after m)
    c.in-Refused.is (c.in_ok-code.ensures s (type_of s t types rows holds typed)) in
    refused_plain s t (asked_by c.args.ask.now) wanted (modified place v (plain t.number wanted) s)
    c.in-Refused.code types rows before after
    ((g.met.B.Tally.Counter g.world.𝓛 g.world.𝓜 g.world.𝓡
    ((λ s x. x), (λ x. x), (λ x. x), λ x. x)).fits c.args.tally.now)
    holds typed c.requires.plain matched.0 matched.1

pub returns-then-not-room : goal.returns-then-not-room
returns-then-not-room g c = λ s types holds typed.
    let t = c.args.of.now in
    let place = c.args.attribute in
    let v = c.args.value.now in
    let wanted = tree c.args.ask.now.filter in
    let rows = g.B.Sorted.rows c.args.table.now in
    let before = g.B.Tally.Counter.number c.args.tally.now in
    let after = g.B.Tally.Counter.number c.matching.new.tally in
    let features = c.in-Features.features in
    let examined = c.in-Features.field-1 in
    let matched = subst (λ (m : Matched). IsMatched s t (asked_by c.args.ask.now) before after m)
    c.in-Features.is (c.in_ok-code.ensures s (type_of s t types rows holds typed)) in
    let found = subst (λ (a : Asked). IsAnswer s t a features examined before after)
    c.requires.plain matched in
    let exchanges = c.as_slice.result.now in
    let are : exchanges ≡ map (given place v) features =
    c.as_slice.ensures ∙ c.in_ok-exchanges-in-Features.ensures in
    let again : c.as_slice-in-Features.result.now ≡ exchanges =
    c.as_slice-in-Features.ensures ∙ sym c.as_slice.ensures in
    let room = room_told c.rows_follow_exchanges.ensures.counted s t place v wanted features
    exchanges examined before after c.count.result c.len.result types rows
    c.in_ok-batch-in-Features.batch.puts
    holds typed c.requires.takes found are c.count.ensures c.len.ensures
    c.in_ok-batch-in-Features.ensures.puts in
    let told : c.in_ok-room-in-Features.room
    ≡ not (has_too_many_rows
    (exchanged_in t.number (map (given place v) (answer t.number wanted s)) s)) =
    c.in_ok-room-in-Features.ensures
    ∙ ap (λ (es : List Exchange). nat_le (c.count.result + c.len.result)
    (2000000 + length (old_keys t es))) again ∙ room in
    let many = true_of_not
    (has_too_many_rows
    (exchanged_in t.number (map (given place v) (answer t.number wanted s)) s))
    (sym told ∙ c.if-not-room.true) in
    modify_full s t place v wanted features examined before after types rows holds typed found many

pub returns-in_ok-apply-in-Features : goal.returns-in_ok-apply-in-Features
returns-in_ok-apply-in-Features g c = λ s types holds typed.
    let t = c.args.of.now in
    let place = c.args.attribute in
    let v = c.args.value.now in
    let wanted = tree c.args.ask.now.filter in
    let rows = g.B.Sorted.rows c.args.table.now in
    let before = g.B.Tally.Counter.number c.args.tally.now in
    let after = g.B.Tally.Counter.number c.matching.new.tally in
    let features = c.in-Features.features in
    let examined = c.in-Features.field-1 in
    let matched = subst (λ (m : Matched). IsMatched s t (asked_by c.args.ask.now) before after m)
    c.in-Features.is (c.in_ok-code.ensures s (type_of s t types rows holds typed)) in
    let found = subst (λ (a : Asked). IsAnswer s t a features examined before after)
    c.requires.plain matched in
    let exchanges = c.as_slice.result.now in
    let are : exchanges ≡ map (given place v) features =
    c.as_slice.ensures ∙ c.in_ok-exchanges-in-Features.ensures in
    let again : c.as_slice-in-Features.result.now ≡ exchanges =
    c.as_slice-in-Features.ensures ∙ sym c.as_slice.ensures in
    let room = room_told c.rows_follow_exchanges.ensures.counted s t place v wanted features
    exchanges examined before after c.count.result c.len.result types rows
    c.in_ok-batch-in-Features.batch.puts
    holds typed c.requires.takes found are c.count.ensures c.len.ensures
    c.in_ok-batch-in-Features.ensures.puts in
    let told : c.in_ok-room-in-Features.room
    ≡ not (has_too_many_rows
    (exchanged_in t.number (map (given place v) (answer t.number wanted s)) s)) =
    c.in_ok-room-in-Features.ensures
    ∙ ap (λ (es : List Exchange). nat_le (c.count.result + c.len.result)
    (2000000 + length (old_keys t es))) again ∙ room in
    let few = false_of_not
    (has_too_many_rows
    (exchanged_in t.number (map (given place v) (answer t.number wanted s)) s))
    (sym told ∙ c.if-not-room.false) in
    modify_reply c.rows_follow_exchanges.ensures.rows c.exchanges_keep_the_state.ensures.state
    c.exchanges_keep_the_state.ensures.types
    c.same_at_each_key.ensures c.rows_are_of_features.ensures.rising s t place v wanted features
    exchanges examined before after c.len-count.result types rows
    (g.B.Sorted.rows c.apply.new.self)
    c.in_ok-batch-in-Features.batch.removes c.in_ok-batch-in-Features.batch.puts holds typed
    c.requires.takes found are c.len-count.ensures few
    c.in_ok-batch-in-Features.ensures.removes c.in_ok-batch-in-Features.ensures.puts
    (g.met.B.Sorted.rising c.apply.new.self) c.in_ok-apply-in-Features.ensures.ok
