use Rattle.std.proofs.Common.{refl}
use Rattle.gm_bounds.proofs.OneForms.{PlaceLaws, date_told, no_date}
use Rattle.gm_bounds.proofs.one_value.is_date_form.Goals as goal

pub returns-in-Some : goal.returns-in-Some
returns-in-Some c =
    let laws : PlaceLaws =
    record {
      ints = c.numbers_as_places.ensures.ints;
      longs = c.numbers_as_places.ensures.longs;
    } in
    date_told laws c.args.form.now c.in-Some.field-0-0 c.in-Some.length _ refl
    c.in-Some.ensures.found

pub returns-in-None : goal.returns-in-None
returns-in-None c =
    let laws : PlaceLaws =
    record {
      ints = c.numbers_as_places.ensures.ints;
      longs = c.numbers_as_places.ensures.longs;
    } in
    no_date laws c.args.form.now c.in-None.ensures.only
