use Rattle.std.proofs.Common.{◌≡◌, take}
use Rattle.gm_plan.proofs.space.are_same.Given as goal

abbrev pub invariant-windows : goal.invariant-windows
invariant-windows l = take l.i l.one ≡ take l.i l.other
