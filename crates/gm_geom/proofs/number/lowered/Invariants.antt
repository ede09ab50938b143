use Rattle.std.proofs.Common.{◌≡◌, ◌^◌, ◌<◌}
use Rattle.gm_geom.specs.Number.{nearest}
use Rattle.gm_geom.proofs.number.lowered.Given as goal

abbrev pub invariant-places : goal.invariant-places
invariant-places l = record {
  some : 0 < l.places;
  small : l.number < 10 ^ 38;
  value : nearest l.number (10 ^ l.places) ≡ nearest l.initial.number (10 ^ l.initial.places);
}

abbrev pub decreases-places : goal.decreases-places
decreases-places l = l.places
