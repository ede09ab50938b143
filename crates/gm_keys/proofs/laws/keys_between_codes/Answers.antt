use Rattle.gm_keys.proofs.Between.{Order, in_codes, in_bin, in_bins}
use Rattle.gm_keys.proofs.laws.keys_between_codes.Goals as goal

order : goal.After-big_bytes_in_order → Order
order c = record {
  low = c.fronts_decide.ensures.low;
  high = c.fronts_decide.ensures.high;
  numbers = c.big_bytes_in_order.ensures.order;
  shared = c.big_bytes_in_order.ensures.shared;
}

pub returns-clause-codes : goal.returns-clause-codes
returns-clause-codes c = in_codes (order c)

pub returns-clause-in_bin : goal.returns-clause-in_bin
returns-clause-in_bin c = in_bin (order c)

pub returns-clause-bins : goal.returns-clause-bins
returns-clause-bins c = in_bins (order c)
