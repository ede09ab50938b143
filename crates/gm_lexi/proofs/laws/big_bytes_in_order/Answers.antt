use Rattle.gm_lexi.proofs.Order.{numbers_in_order, no_number_is_a_front, slice_cmp-front}
use Rattle.gm_lexi.proofs.laws.big_bytes_in_order.Goals as goal

pub returns-clause-order : goal.returns-clause-order
returns-clause-order c = numbers_in_order

pub returns-clause-apart : goal.returns-clause-apart
returns-clause-apart c = no_number_is_a_front

pub returns-clause-shared : goal.returns-clause-shared
returns-clause-shared c = slice_cmp-front
