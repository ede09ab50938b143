use Rattle.std.proofs.Common.{ap, ◌∙◌}
use Rattle.std.specs.Ordering.{ordering_reverse}
use Rattle.std.specs.Cmp.Lexicographic.{nat_list_cmp_total}
use Rattle.gm_base.proofs.Fronts.{order-of_fronts}
use Rattle.gm_base.proofs.front.order_by_fronts.Goals as goal

pub returns-then-front-other-clause-order : goal.returns-then-front-other-clause-order
returns-then-front-other-clause-order c = λ xs ys one two.
    order-of_fronts _ _ xs ys one two c.if-front-other.true

pub returns-then-front-other-2-clause-order : goal.returns-then-front-other-2-clause-order
returns-then-front-other-2-clause-order c = λ xs ys one two.
    nat_list_cmp_total.antisymm xs ys
    ∙ ap ordering_reverse (order-of_fronts _ _ ys xs two one c.if-front-other-2.true)
