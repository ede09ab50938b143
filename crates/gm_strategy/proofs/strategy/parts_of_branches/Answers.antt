use Rattle.std.proofs.Common.{sym, ap, ◌∙◌, subst}
use Rattle.std.specs.Borrow.{Bor}
use Rattle.std.specs.Prelude.{nat_lt}
use Rattle.gm_filter.specs.declared.filter.Filter.{Filter}
use Rattle.gm_filter.specs.Suitability.{Suits}
use Rattle.gm_filter.specs.Tree.{tree}
use Rattle.gm_strategy.specs.declared.choice.Choice.{Choice}
use Rattle.gm_strategy.specs.Strategy.{is_bounded}
use Rattle.gm_strategy.proofs.Plans.{suit_at, unbounded_at}
use Rattle.gm_strategy.proofs.strategy.parts_of_branches.Goals as goal

pub choice_for-requires : goal.choice_for-requires
choice_for-requires c =
    subst (λ (f : Bor Filter). Suits c.args.of.now (tree f.now)) (sym c.branch-item.is)
    (suit_at c.args.of.now c.args.branches.now c.branches.branch-index c.branch-item.result
    c.branches-test.true c.requires)

pub returns-then-not-is_bounded : goal.returns-then-not-is_bounded
returns-then-not-is_bounded c =
    unbounded_at c.args.of.now c.args.branches.now c.branches.branch-index c.branch-item.result
    c.branches-test.true
    (ap (λ (f : Bor Filter). is_bounded c.args.of.now (tree f.now)) (sym c.branch-item.is)
    ∙ ap (λ (held : Choice). nat_lt held.cost 7) (sym c.in_ok-choice.ensures)
    ∙ sym c.is_bounded.ensures ∙ c.if-not-is_bounded.true)
