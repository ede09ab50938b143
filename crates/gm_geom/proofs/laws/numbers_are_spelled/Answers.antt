use Rattle.gm_geom.proofs.Spelled.{number_is_spelled, one_number, fixed_is_spelled, none_is_spelled}
use Rattle.gm_geom.proofs.Spelled.{big_is_spelled}
use Rattle.gm_geom.proofs.laws.numbers_are_spelled.Goals as goal

pub returns-clause-number : goal.returns-clause-number
returns-clause-number c = number_is_spelled

pub returns-clause-one : goal.returns-clause-one
returns-clause-one c = one_number

pub returns-clause-fixed : goal.returns-clause-fixed
returns-clause-fixed c = fixed_is_spelled

pub returns-clause-form : goal.returns-clause-form
returns-clause-form c = none_is_spelled

pub returns-clause-big : goal.returns-clause-big
returns-clause-big c = big_is_spelled
