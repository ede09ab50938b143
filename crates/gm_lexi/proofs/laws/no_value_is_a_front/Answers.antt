use Rattle.gm_lexi.proofs.Flips.{no_int_is_a_front, no_long_is_a_front, instant_fits}
use Rattle.gm_lexi.proofs.Fronts.{no_text_is_a_front}
use Rattle.gm_lexi.proofs.laws.no_value_is_a_front.Goals as goal

pub returns-clause-ints : goal.returns-clause-ints
returns-clause-ints c = no_int_is_a_front

pub returns-clause-longs : goal.returns-clause-longs
returns-clause-longs c = no_long_is_a_front

pub returns-clause-dates : goal.returns-clause-dates
returns-clause-dates c =
    λ a b s t is is'. no_long_is_a_front a b s t (instant_fits a is) (instant_fits b is')

pub returns-clause-texts : goal.returns-clause-texts
returns-clause-texts c = no_text_is_a_front
