use Rattle.gm_bounds.proofs.InOrder.{widens}
use Rattle.gm_bounds.proofs.laws.joined_ranges_hold_both.Goals as goal

pub returns-clause-first : goal.returns-clause-first
returns-clause-first c = λ o r s h. (widens o).left r s h

pub returns-clause-second : goal.returns-clause-second
returns-clause-second c = λ o r s h. (widens o).right r s h
