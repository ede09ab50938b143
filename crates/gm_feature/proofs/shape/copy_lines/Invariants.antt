use Rattle.std.proofs.Common.{◌≡◌, take}
use Rattle.gm_feature.proofs.shape.copy_lines.Given as goal

abbrev pub invariant-lines : goal.invariant-lines
invariant-lines l = l.copies.items ≡ take l.line-index l.lines
