use Rattle.std.proofs.Common.{◌-◌, ◌<◌, ◌^◌, sym, ◌∙◌, arith}
use Rattle.std.proofs.lemmas.Nat.{mod_below}
use Rattle.std.specs.String.{string_bytes}
use Rattle.gm_base.proofs.Lists.{begins_further}
use Rattle.gm_geom.proofs.Numbers.{pow_pos}
use Rattle.gm_geom.proofs.Places.{places_room, next_digit, with_next, with_none}
use Rattle.gm_geom.proofs.printer.append_places.Goals as goal

pub nonzero_div-rest : goal.nonzero_div-rest
nonzero_div-rest c = omega (arith, c.pow-unit.ensures, pow_pos (c.places.places - 1))

pub append_digit-requires : goal.append_digit-requires
append_digit-requires c =
    let some : 0 < c.places.places =
    places_room c.places.places c.places.rest c.places.invariant.small c.places-test.true in
    rw c.pow-unit.ensures (next_digit c.places.places c.places.rest some c.places.invariant.small)

pub nonzero_rem-rest : goal.nonzero_rem-rest
nonzero_rem-rest c = omega (arith, c.pow-unit.ensures, pow_pos (c.places.places - 1))

pub places-preserved : goal.places-preserved
places-preserved c =
    let some : 0 < c.places.places =
    places_room c.places.places c.places.rest c.places.invariant.small c.places-test.true in
    record {
      few = omega arith;
      small = rw c.pow-unit.ensures
          (mod_below c.places.rest (10 ^ (c.places.places - 1)) (pow_pos (c.places.places - 1)));
      kept = begins_further (string_bytes c.args.out.now) (string_bytes c.places.out)
          (string_bytes c.append_digit.new.out) c.places.invariant.kept c.append_digit.ensures.kept;
      text = with_next (string_bytes c.places.out) (string_bytes c.append_digit.new.out)
          c.places.places c.places.rest c.pow-unit.result some c.places-test.true c.pow-unit.ensures
          c.in_ok-append_digit.ensures.text ∙ c.places.invariant.text;
    }

pub returns-clause-text : goal.returns-clause-text
returns-clause-text c =
    sym (with_none (string_bytes c.places.out) c.places.places c.places.rest c.places-test.false)
    ∙ c.places.invariant.text
