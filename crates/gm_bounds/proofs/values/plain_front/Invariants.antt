use Rattle.std.proofs.Common.{◌≡◌, ◌≤◌, ◌++◌, ◌-◌, length, take, drop}
use Rattle.gm_filter.specs.Like.{plain_front}
use Rattle.gm_bounds.proofs.values.plain_front.Given as goal

abbrev pub invariant-loop-end : goal.invariant-loop-end
invariant-loop-end l = record {
  within : l.end ≤ length l.pattern;
  so_far : plain_front l.pattern ≡ take l.end l.pattern ++ plain_front (drop l.end l.pattern);
}

abbrev pub decreases-loop-end : goal.decreases-loop-end
decreases-loop-end l = length l.pattern - l.end
