use Rattle.std.proofs.Common.{◌≡◌, ◌≤◌, length, take}
use Rattle.gm_lexi.specs.Ends.{after_of}
use Rattle.gm_lexi.proofs.ends.without_full.Given as goal

abbrev pub invariant-loop-end : goal.invariant-loop-end
invariant-loop-end l = (l.end ≤ length l.bytes) × (after_of (take l.end l.bytes) ≡ after_of l.bytes)

abbrev pub decreases-loop-end : goal.decreases-loop-end
decreases-loop-end l = l.end
