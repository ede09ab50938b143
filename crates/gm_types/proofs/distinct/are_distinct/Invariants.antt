use Rattle.std.specs.Prelude.{map, take}
use Rattle.gm_types.proofs.Noted.{AreNoted}
use Rattle.gm_types.proofs.distinct.are_distinct.Given as goal

abbrev pub invariant-loop-item : goal.invariant-loop-item
invariant-loop-item g l = AreNoted l.seen (map g.T.Keyed.key_of (take l.item-index l.items))
