use Rattle.std.proofs.Common.{◌≡◌, ◌≤◌, ◌+◌, ◌-◌, ◌*◌, ◌^◌}
use Rattle.gm_split.specs.RunLaws.{RunLaws}
use Rattle.gm_split.specs.Opening.{partials}
use Rattle.gm_split.proofs.Stop.{Reached}
use Rattle.gm_split.proofs.levels.descend.Given as goal

abbrev pub invariant-loop-level : goal.invariant-loop-level
invariant-loop-level g l = let s = g.T.Tree.shape l.tree in record {
  laws : RunLaws;
  depth : l.depth ≡ s.depth;
  reached : Reached g.row.D s l.windows (g.T.Tree.Comes l.tree) l.target l.level l.now.pieces.items;
  partial : l.now.partial ≡ partials l.now.pieces.items;
  steps : l.steps ≤ l.fn.steps + l.level * (2 ^ g.row.D * (4 * l.target));
}

abbrev pub decreases-loop-level : goal.decreases-loop-level
decreases-loop-level g l = l.depth - l.level
