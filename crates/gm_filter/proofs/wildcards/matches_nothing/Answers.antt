use Rattle.std.proofs.Common.{sym, ◌∙◌, arith, []}
use Rattle.gm_filter.proofs.Steps.{at_percent, at_end}
use Rattle.gm_filter.proofs.wildcards.matches_nothing.Goals as goal

pub returns-then-wanted-ne37 : goal.returns-then-wanted-ne37
returns-then-wanted-ne37 c =
    at_end c.loop-pattern.pattern.now [] c.in-len1-up.len_at_least c.if-wanted-ne37.true
    (omega arith) ∙ c.loop-pattern.invariant

pub loop-pattern-preserved : goal.loop-pattern-preserved
loop-pattern-preserved c =
    sym (at_percent c.loop-pattern.pattern.now [] c.in-len1-up.len_at_least c.if-wanted-ne37.false)
    ∙ c.loop-pattern.invariant
