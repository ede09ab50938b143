use Rattle.std.proofs.Common.{◌≡◌, ◌∙◌, length, Some, None, is_some, refl, sym, ap, subst}
use Rattle.std.specs.Prelude.{Bool, true, false, if◌then◌else◌}
use Rattle.std.specs.Option.{option_copied}
use Rattle.gm_base.proofs.Booleans.{true_of_not, false_of_not}
use Rattle.gm_base.specs.Counter.{capped_sum}
use Rattle.gm_base.specs.declared.code.Code.TheVariants.{E19}
use Rattle.gm_engine_rows.specs.State.{feature_at, changed_in}
use Rattle.gm_engine_rows.specs.Rows.{rows_of}
use Rattle.gm_script.specs.declared.reply.Reply.TheVariants as reply
use Rattle.gm_program.specs.Limits.{has_too_many_rows}
use Rattle.gm_program.specs.Serve.{Executes}
use Rattle.gm_program.specs.Step.{refused, row_of_one}
use Rattle.gm_program.proofs.Changing.{holds_changed, rows_after, has_room_as_told, few_from_room}
use Rattle.gm_program.proofs.Changing.{held_itself, length-puts}
use Rattle.gm_program.proofs.execute.put.put_of.Goals as goal

pub returns-then-not-branch : goal.returns-then-not-branch
returns-then-not-branch g c = λ s types holds typed.
    let t = c.args.of.now in
    let n = t.number in
    let f = c.args.feature in
    let next = changed_in n f.id (Some f) s in
    let before = g.B.Tally.Counter.number c.args.tally.now in
    let held = c.in_ok-old.ensures.held s types holds typed in
    let same : option_copied c.as_ref-2.result ≡ feature_at n f.id s =
    c.as_ref-2.ensures.value ∙ held in
    let room = has_room_as_told c.changes_are_counted.ensures s n t f.id
    (option_copied c.as_ref-2.result) (Some f) c.count.result c.len.result holds.state typed
    (held_itself t f c.requires)
    same (c.count.ensures ∙ ap length holds.same_rows)
    (c.len.ensures ∙ ap length c.in_ok-batch.ensures.puts ∙ length-puts t f) in
    let many : has_too_many_rows next ≡ true =
    true_of_not (has_too_many_rows next)
    (sym room ∙ sym c.in_ok-has_room.ensures ∙ c.if-not-branch.true) in
    subst (λ (b : Bool). Executes
    (if b then refused s E19 (row_of_one (feature_at n f.id s))
    else record {
      state = next;
      reply = Some (reply.Stored f.id (is_some (feature_at n f.id s)));
      examined =
          row_of_one (feature_at n f.id s);
    })
    (Some (reply.Refusal E19 None)) types (g.B.Sorted.rows c.args.table.now) before
    (g.B.Tally.Counter.number c.bound.new.tally)) (sym many) (record {
      store = holds;
      reply = refl;
      tally = c.in_ok-old.ensures.tally s types holds typed
          ∙ ap (λ o. capped_sum before (row_of_one o)) held;
    })

pub returns : goal.returns
returns g c = λ s types holds typed.
    let t = c.args.of.now in
    let n = t.number in
    let f = c.args.feature in
    let next = changed_in n f.id (Some f) s in
    let before = g.B.Tally.Counter.number c.args.tally.now in
    let rows = g.B.Sorted.rows c.args.table.now in
    let now = g.B.Sorted.rows c.apply.new.self in
    let held = c.in_ok-old.ensures.held s types holds typed in
    let same : option_copied c.as_ref.result ≡ feature_at n f.id s =
    c.as_ref.ensures.value ∙ held in
    let same2 : option_copied c.as_ref-2.result ≡ feature_at n f.id s =
    c.as_ref-2.ensures.value ∙ held in
    let room = has_room_as_told c.changes_are_counted.ensures s n t f.id
    (option_copied c.as_ref-2.result) (Some f) c.count.result c.len.result holds.state typed
    (held_itself t f c.requires)
    same2 (c.count.ensures ∙ ap length holds.same_rows)
    (c.len.ensures ∙ ap length c.in_ok-batch.ensures.puts ∙ length-puts t f) in
    let few : has_too_many_rows next ≡ false =
    false_of_not (has_too_many_rows next)
    (sym room ∙ sym c.in_ok-has_room.ensures ∙ c.if-not-branch.false) in
    let after : now ≡ rows_of next =
    rows_after c.rows_follow_a_change.ensures c.same_at_each_key.ensures
    c.rows_are_of_features.ensures.rising s n t f.id (option_copied c.as_ref.result) (Some f)
    rows now c.in_ok-batch.batch.removes c.in_ok-batch.batch.puts
    holds.state typed (held_itself t f c.requires) holds.same_rows same
    c.in_ok-batch.ensures.removes c.in_ok-batch.ensures.puts
    (g.met.B.Sorted.rising c.apply.new.self) c.in_ok-apply.ensures.ok in
    subst (λ (b : Bool). Executes
    (if b then refused s E19 (row_of_one (feature_at n f.id s))
    else record {
      state = next;
      reply = Some (reply.Stored f.id (is_some (feature_at n f.id s)));
      examined =
          row_of_one (feature_at n f.id s);
    })
    (Some (reply.Stored f.id c.is_some.result)) types now before
    (g.B.Tally.Counter.number c.bound.new.tally)) (sym few) (record {
      store = holds_changed c.changes_keep_the_state.ensures.state
          c.changes_keep_the_state.ensures.types s n t f.id (Some f) types rows now
          holds typed (held_itself t f c.requires) (few_from_room next few) after;
      reply = ap (λ b. Some (reply.Stored f.id b)) (c.is_some.ensures ∙ ap is_some held);
      tally = c.in_ok-old.ensures.tally s types holds typed
          ∙ ap (λ o. capped_sum before (row_of_one o)) held;
    })
