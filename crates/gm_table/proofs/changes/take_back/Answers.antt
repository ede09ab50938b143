use Rattle.std.proofs.Common.{arith, ap, sym, ◌∙◌, get_or, length, ◌≡◌, [], ◌<◌}
use Rattle.std.proofs.lemmas.Grind.{common_steps}
use Rattle.gm_table.specs.Sorted.{at_key}
use Rattle.gm_table.specs.Changes.{undone_at}
use Rattle.gm_base.proofs.Booleans.{no_length}
use Rattle.gm_table.proofs.Undoing.{undone_at-push}
use Rattle.gm_table.proofs.changes.take_back.Goals as goal

pub loop-old-preserved : goal.loop-old-preserved
loop-old-preserved c =
    let count : c.len.result ≡ length c.pop.new.self.items = grind (arith, common_steps) in
    let few : length c.pop.new.self.items < length c.args.puts.now = grind (arith, common_steps) in
    record {
      few = grind (arith, common_steps);
      undone = λ key. rw (c.restore.ensures.restored key, ← c.index-puts-len.is)
          (sym (undone_at-push key c.args.puts.now c.pop.new.self.items c.index-puts-len.result
          c.in-Some.old _ few
          (c.index-puts-len.is
          ∙ ap (λ k. get_or c.args.puts.now k c.index-puts-len.result) count))
          ∙ ap (λ olds. undone_at key c.args.puts.now olds (at_key key c.loop-old.map.entries))
          (sym c.in-Some.ensures.items) ∙ c.loop-old.invariant.undone key);
      rising = c.restore.ensures.rising;
    }

pub returns-clause-undone : goal.returns-clause-undone
returns-clause-undone c = λ key.
    let none : c.loop-old.olds.items ≡ [] = no_length _ (grind (arith, common_steps)) in
    sym (ap (λ olds. undone_at key c.args.puts.now olds (at_key key c.loop-old.map.entries)) none)
    ∙ c.loop-old.invariant.undone key
