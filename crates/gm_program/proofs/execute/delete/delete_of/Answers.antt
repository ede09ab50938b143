use Rattle.std.proofs.Common.{◌≡◌, ◌∙◌, Option, Some, None, is_some, refl, sym, ap, subst}
use Rattle.std.specs.Prelude.{if◌then◌else◌}
use Rattle.gm_base.specs.Counter.{capped_sum}
use Rattle.gm_base.specs.declared.code.Code.TheVariants.{E13}
use Rattle.gm_feature.specs.declared.feature.Feature.{Feature}
use Rattle.gm_engine_rows.specs.State.{feature_at, changed_in}
use Rattle.gm_engine_rows.specs.Rows.{rows_of}
use Rattle.gm_script.specs.declared.reply.Reply.TheVariants as reply
use Rattle.gm_program.specs.Serve.{Executes}
use Rattle.gm_program.specs.Step.{refused, row_of_one}
use Rattle.gm_program.proofs.Changing.{holds_changed, rows_after, fewer, none_held}
use Rattle.gm_program.proofs.execute.delete.delete_of.Goals as goal

pub returns-in_default : goal.returns-in_default
returns-in_default g c = λ s types holds typed.
    let n = c.args.of.now.number in
    let id = c.args.id in
    let before = g.B.Tally.Counter.number c.args.tally.now in
    let bound : feature_at n id s ≡ None =
    sym (c.in_ok-old.ensures.held s types holds typed) ∙ c.in_default.is in
    subst (λ (o : Option Feature). Executes
    (if is_some o then record
    { state = changed_in n id None s; reply = Some (reply.Deleted id); examined = 1 }
    else refused s E13 0)
    (Some (reply.Refusal E13 None)) types (g.B.Sorted.rows c.args.table.now) before
    (g.B.Tally.Counter.number c.bound.new.tally)) (sym bound) (record {
      store = holds;
      reply = refl;
      tally = c.in_ok-old.ensures.tally s types holds typed
          ∙ ap (λ o. capped_sum before (row_of_one o)) c.in_default.is;
    })

pub returns : goal.returns
returns g c = λ s types holds typed.
    let t = c.args.of.now in
    let n = t.number in
    let id = c.args.id in
    let old = c.in-Some.old in
    let before = g.B.Tally.Counter.number c.args.tally.now in
    let bound : feature_at n id s ≡ Some old =
    sym (c.in_ok-old.ensures.held s types holds typed) ∙ c.in-Some.is in
    let after : g.B.Sorted.rows c.apply.new.self ≡ rows_of (changed_in n id None s) =
    rows_after c.rows_follow_a_change.ensures c.same_at_each_key.ensures
    c.rows_are_of_features.ensures.rising s n t id (Some old) None
    (g.B.Sorted.rows c.args.table.now) (g.B.Sorted.rows c.apply.new.self)
    c.in_ok-batch.batch.removes c.in_ok-batch.batch.puts
    holds.state typed (none_held t id) holds.same_rows (sym bound) c.in_ok-batch.ensures.removes
    c.in_ok-batch.ensures.puts
    (g.met.B.Sorted.rising c.apply.new.self) c.in_ok-apply.ensures.ok in
    subst (λ (o : Option Feature). Executes
    (if is_some o then record
    { state = changed_in n id None s; reply = Some (reply.Deleted id); examined = 1 }
    else refused s E13 0)
    (Some (reply.Deleted id)) types (g.B.Sorted.rows c.apply.new.self) before
    (g.B.Tally.Counter.number c.bound.new.tally)) (sym bound) (record {
      store = holds_changed c.changes_keep_the_state.ensures.state
          c.changes_keep_the_state.ensures.types s n t id None types
          (g.B.Sorted.rows c.args.table.now) (g.B.Sorted.rows c.apply.new.self)
          holds typed (none_held t id)
          (fewer c.changes_are_counted.ensures s n t id holds.state typed holds.limits.rows)
          after;
      reply = refl;
      tally = c.in_ok-old.ensures.tally s types holds typed
          ∙ ap (λ o. capped_sum before (row_of_one o)) c.in-Some.is;
    })
