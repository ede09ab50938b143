use Rattle.gm_lexi.proofs.Flips.{int_at_place, long_at_place}
use Rattle.gm_lexi.proofs.laws.numbers_as_places.Goals as goal

pub returns-clause-ints : goal.returns-clause-ints
returns-clause-ints c = int_at_place

pub returns-clause-longs : goal.returns-clause-longs
returns-clause-longs c = long_at_place
