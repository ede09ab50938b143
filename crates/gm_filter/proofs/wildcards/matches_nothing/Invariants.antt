use Rattle.std.proofs.Common.{◌≡◌, length, []}
use Rattle.gm_filter.specs.Wildcards as spec
use Rattle.gm_filter.proofs.wildcards.matches_nothing.Given as goal

abbrev pub invariant-loop-pattern : goal.invariant-loop-pattern
invariant-loop-pattern l = spec.matches l.pattern [] ≡ spec.matches l.fn.pattern []

abbrev pub decreases-loop-pattern : goal.decreases-loop-pattern
decreases-loop-pattern l = length l.pattern
