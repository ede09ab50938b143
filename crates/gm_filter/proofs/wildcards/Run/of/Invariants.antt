use Rattle.std.proofs.Common.{length}
use Rattle.gm_filter.proofs.Steps.{HasPassed}
use Rattle.gm_filter.proofs.wildcards.Run.of.Given as goal

abbrev pub invariant-loop-pattern : goal.invariant-loop-pattern
invariant-loop-pattern l = HasPassed l.fn.pattern l.fn.text l.pattern l.text

abbrev pub decreases-loop-pattern : goal.decreases-loop-pattern
decreases-loop-pattern l = length l.pattern
