use Rattle.std.proofs.Common.{◌≡◌, ◌++◌, ◌^◌, ◌<◌, ◌≤◌}
use Rattle.std.specs.String.{string_bytes}
use Rattle.gm_base.specs.Text.{BeginsWith}
use Rattle.gm_geom.specs.Number.{places_of}
use Rattle.gm_geom.proofs.printer.append_places.Given as goal

abbrev pub invariant-places : goal.invariant-places
invariant-places l = record {
  few : l.places ≤ 7;
  small : l.rest < 10 ^ l.places;
  kept : BeginsWith (string_bytes l.out) (string_bytes l.initial.out);
  text : string_bytes l.out ++ places_of l.places l.rest
      ≡ string_bytes l.initial.out ++ places_of 7 l.initial.rest;
}

abbrev pub decreases-places : goal.decreases-places
decreases-places l = l.places
