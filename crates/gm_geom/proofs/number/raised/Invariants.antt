use Rattle.std.proofs.Common.{◌≡◌, ◌*◌, ◌^◌}
use Rattle.gm_geom.proofs.number.raised.Given as goal

abbrev pub invariant-places : goal.invariant-places
invariant-places l = l.number * 10 ^ l.places ≡ l.initial.number * 10 ^ l.initial.places

abbrev pub decreases-places : goal.decreases-places
decreases-places l = l.places
