use Rattle.std.proofs.Common.{rules, of_calls}
use Rattle.std.proofs.lemmas.Fn.{always_returns_same}
use Rattle.gm_table.proofs.BlockPlaces.{Parts, is_before, partitioned, parts_at}
use Rattle.gm_table.proofs.blocks.search.place_in.Goals as goal

pub returns : goal.returns
returns c =
    let key = c.args.key.now in
    let rows = c.args.rows.now in
    let each = always_returns_same _ _ _ (λ a r f k. search (rules, of_calls)) in
    let point = c.partition_point.ensures.partitioned (is_before key) each
    (partitioned key rows c.requires) in
    let parts : Parts key rows c.partition_point.result =
    parts_at key rows c.partition_point.result point.0 point.1 in
    record { bound = c.partition_point.ensures.bound; before = parts.before; from = parts.from }
