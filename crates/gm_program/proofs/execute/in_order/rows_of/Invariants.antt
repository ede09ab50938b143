use Rattle.std.proofs.Common.{◌≡◌, take, map}
use Rattle.gm_program.specs.InOrder.{seen}
use Rattle.gm_program.proofs.execute.in_order.rows_of.Given as goal

abbrev pub invariant-rows : goal.invariant-rows
invariant-rows l = map seen l.rows.items ≡ take l.i l.found
