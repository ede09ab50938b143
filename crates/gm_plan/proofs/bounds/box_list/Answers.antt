use Rattle.std.proofs.Common.{sym, ◌∙◌, subst}
use Rattle.gm_filter.specs.Tree.{tree}
use Rattle.gm_geom.specs.declared.point.Box2.{Box2}
use Rattle.gm_plan.proofs.Few.{IsFew, few_boxes}
use Rattle.gm_plan.proofs.bounds.box_list.Goals as goal

pub returns-in-Listed-clause-few : goal.returns-in-Listed-clause-few
returns-in-Listed-clause-few c =
    subst (IsFew {X = Box2}) (sym c.in_ok-boxes.ensures ∙ c.in-Listed.is)
    (few_boxes c.args.of.now (tree c.args.filter.now))
