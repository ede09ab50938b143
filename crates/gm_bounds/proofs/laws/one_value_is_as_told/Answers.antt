use Rattle.gm_bounds.proofs.OneForms.{PlaceLaws, one_value_decides}
use Rattle.gm_bounds.proofs.laws.one_value_is_as_told.Goals as goal

pub returns : goal.returns
returns c =
    let laws : PlaceLaws =
    record {
      ints = c.numbers_as_places.ensures.ints;
      longs = c.numbers_as_places.ensures.longs;
    } in
    one_value_decides laws
