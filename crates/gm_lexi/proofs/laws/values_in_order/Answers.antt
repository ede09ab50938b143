use Rattle.gm_lexi.proofs.Flips.{ints_in_order, longs_in_order, instant_fits}
use Rattle.gm_lexi.proofs.Fronts.{texts_in_order}
use Rattle.gm_lexi.proofs.laws.values_in_order.Goals as goal

pub returns-clause-ints : goal.returns-clause-ints
returns-clause-ints c = ints_in_order

pub returns-clause-longs : goal.returns-clause-longs
returns-clause-longs c = longs_in_order

pub returns-clause-dates : goal.returns-clause-dates
returns-clause-dates c =
    λ a b s t is is'. longs_in_order a b s t (instant_fits a is) (instant_fits b is')

pub returns-clause-texts : goal.returns-clause-texts
returns-clause-texts c = texts_in_order
