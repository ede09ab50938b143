use Rattle.std.proofs.Common.{◌≡◌, ◌≤◌, length}
use Rattle.gm_filter.specs.Wildcards as spec
use Rattle.gm_filter.proofs.wildcards.past_continuation.Given as goal

abbrev pub invariant-loop-text : goal.invariant-loop-text
invariant-loop-text l =
    (spec.past_continuation l.text ≡ spec.past_continuation l.fn.text)
    × (length l.text ≤ length l.fn.text)

abbrev pub decreases-loop-text : goal.decreases-loop-text
decreases-loop-text l = length l.text
