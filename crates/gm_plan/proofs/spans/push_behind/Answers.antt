use Rattle.std.proofs.Common.{◌++◌, ◌∷◌, [], ap, ◌∙◌}
use Rattle.gm_plan.proofs.Raising.{span_behind_is}
use Rattle.gm_plan.proofs.spans.push_behind.Goals as goal

pub returns-clause-pushed : goal.returns-clause-pushed
returns-clause-pushed g c =
    λ _. c.in_ok-push_behind.ensures.ok ∙ ap (λ span. c.args.spans.now ++ span ∷ [])
    (span_behind_is c.args.prefix.now c.args.low c.args.high c.raise-count.new.bytes
    c.raise-count.result c.if-count-eq0.false c.raise-count.ensures.end)
