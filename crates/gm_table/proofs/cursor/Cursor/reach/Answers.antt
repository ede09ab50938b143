use Rattle.std.proofs.Common.{◌≡◌, true, refl, sym, ap, ◌∙◌, arith}
use Rattle.std.specs.Ordering.{nat_cmp, is_le}
use Rattle.std.specs.Cmp.Lexicographic.{slice_cmp}
use Rattle.std.proofs.lemmas.Grind.{common_steps}
use Rattle.gm_table.specs.Cursor.{rows_from, rows_after}
use Rattle.gm_table.proofs.Places.{after-is, clear-after}
use Rattle.gm_table.proofs.cursor.Cursor.reach.Goals as goal

pub returns-then-not-is_below : goal.returns-then-not-is_below
returns-then-not-is_below c =
    let from = c.args.self.now.from.now in
    let end = c.of-end.result in
    let up : is_le (slice_cmp nat_cmp from end) ≡ true = grind (arith, common_steps) in
    sym (clear-after end c.step_over-self.result c.step_over-self.new.rest
    (c.if-not-is_below.ensures.clear refl)) ∙ c.step_over-self.ensures
    ∙ ap (rows_after end) c.requires.at
    ∙ after-is from end c.args.map.now.entries up c.requires.rising
    ∙ ap (λ key. rows_from key c.args.map.now.entries) c.of-end.ensures
