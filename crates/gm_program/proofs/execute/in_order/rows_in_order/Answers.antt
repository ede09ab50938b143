use Rattle.std.proofs.lemmas.List.Filters.{dedup_is}
use Rattle.gm_program.proofs.Ordered.{are_same, rows_are}
use Rattle.gm_program.proofs.execute.in_order.rows_in_order.Goals as goal

pub returns : goal.returns
returns c =
    let sorted = c.sort_unstable.new.self.items in
    let once = c.dedup.new.self.items in
    rows_are c.requires.0 c.args.found.now c.in_ok-rows.rows.items sorted once c.requires.1
    c.in_ok-rows.ensures c.sort_unstable.ensures.permutation c.sort_unstable.ensures.sorted
    (dedup_is are_same sorted once c.dedup.ensures.filtered)
