use Rattle.std.proofs.Common.{sym, ◌∙◌, subst}
use Rattle.gm_filter.specs.Tree.{tree}
use Rattle.gm_bounds.specs.declared.interval.Interval.{Interval}
use Rattle.gm_plan.proofs.Few.{IsFew, few_intervals}
use Rattle.gm_plan.proofs.bounds.interval_list.Goals as goal

pub returns-in-Listed-clause-few : goal.returns-in-Listed-clause-few
returns-in-Listed-clause-few c =
    subst (IsFew {X = Interval}) (sym c.in_ok-intervals.ensures ∙ c.in-Listed.is)
    (few_intervals c.args.of.now (tree c.args.filter.now))
