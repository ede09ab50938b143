use Rattle.std.proofs.Common.{◌≡◌, ◌∙◌, ◌++◌, ◌∷◌, [], ◌+◌, ◌<◌, ap, sym, refl, arith, take, length}
use Rattle.std.proofs.Common.{get_or}
use Rattle.std.proofs.lemmas.Grind.{common_steps}
use Rattle.std.proofs.lemmas.List.{take_more}
use Rattle.gm_table.specs.Blocks.{lists_of, rows_of}
use Rattle.gm_table.specs.Sorted.{at_key}
use Rattle.gm_table.specs.Batch.{put_at}
use Rattle.gm_table.specs.Changes.{undone_at, restored_at}
use Rattle.gm_table.proofs.Keys.{same_key}
use Rattle.gm_table.proofs.RowMaps.{same_rows}
use Rattle.gm_table.proofs.Undoing.{put_at-push, undone_at-push, restored_at-put}
use Rattle.gm_table.proofs.blocks.batches.put_rows.Goals as goal

pub loop-put-init : goal.loop-put-init
loop-put-init c = record {
  put = λ key. refl;
  undone = λ key. ap
      (λ olds. undone_at key c.args.puts.now olds
      (at_key key (rows_of (lists_of c.args.table.now.list.items)))) c.in_ok-olds.ensures.items;
  count = ap length c.in_ok-olds.ensures.items;
  room = c.in_ok-olds.ensures.exact;
}

-- what was put in before is taken back
pub returns-in-Err-clause-err : goal.returns-in-Err-clause-err
returns-in-Err-clause-err c =
    same_rows _ _ c.take_back.new.table.rising c.args.table.now.rising
    (λ key. c.take_back.ensures key
    ∙ ap (λ rows. undone_at key c.args.puts.now c.loop-put.olds.items (at_key key rows))
    c.in-Err.ensures.err
    ∙ c.loop-put.invariant.undone key)

pub loop-put-preserved : goal.loop-put-preserved
loop-put-preserved c =
    let item = c.put-item.result in
    let rows = (rows_of (lists_of c.loop-put.table.list.items)) in
    let more : take (c.loop-put.put-index + 1) c.args.puts.now
    ≡ take c.loop-put.put-index c.args.puts.now ++ item ∷ [] =
    take_more _ _ item c.loop-put-test.true
    ∙ ap (λ it. take c.loop-put.put-index c.args.puts.now ++ it ∷ []) (sym c.put-item.is) in
    let noted : c.push_reserved.new.self.items
    ≡ c.loop-put.olds.items ++ at_key item.key rows ∷ [] =
    c.push_reserved.ensures.items
    ∙ ap (λ old. c.loop-put.olds.items ++ old ∷ []) c.in-Ok.ensures.had in
    let few : length c.loop-put.olds.items < length c.args.puts.now =
    omega (arith, c.loop-put.invariant.count, c.loop-put-test.true) in
    record {
      put = λ key. c.in-Ok.ensures.ok key
          ∙ ap (put_at key (item ∷ [])) (c.loop-put.invariant.put key)
          ∙ sym (put_at-push key (take c.loop-put.put-index c.args.puts.now) item _)
          ∙ ap (λ puts. put_at key puts
          (at_key key (rows_of (lists_of c.args.table.now.list.items)))) (sym more);
      undone = λ key. ap
          (λ olds. undone_at key c.args.puts.now olds
          (at_key key (rows_of (lists_of c.put.new.self.list.items)))) noted
          ∙ undone_at-push key c.args.puts.now c.loop-put.olds.items item (at_key item.key rows) _
          few (c.put-item.is
          ∙ ap (λ n. get_or c.args.puts.now n item) (sym c.loop-put.invariant.count))
          ∙ ap (undone_at key c.args.puts.now c.loop-put.olds.items)
          (ap (restored_at key item.key (at_key item.key rows)) (c.in-Ok.ensures.ok key)
          ∙ restored_at-put key item (at_key key rows) (at_key item.key rows)
          (λ same. ap (λ k. at_key k rows) (sym (same_key key item.key same))))
          ∙ c.loop-put.invariant.undone key;
      count = ap length noted ∙ grind (arith, common_steps);
      room = c.push_reserved.ensures.capacity ∙ c.loop-put.invariant.room;
    }
