use Rattle.gm_keys.proofs.Between.{in_values, to_the_end}
use Rattle.gm_keys.proofs.laws.keys_between_values.Goals as goal

pub returns-clause-both : goal.returns-clause-both
returns-clause-both c = in_values c.big_bytes_in_order.ensures.shared

pub returns-clause-to_the_end : goal.returns-clause-to_the_end
returns-clause-to_the_end c =
    to_the_end c.fronts_decide.ensures.high c.big_bytes_in_order.ensures.shared
