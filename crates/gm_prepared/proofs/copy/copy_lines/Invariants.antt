use Rattle.std.proofs.Common.{◌≡◌, take}
use Rattle.gm_prepared.proofs.copy.copy_lines.Given as goal

abbrev pub invariant-lines : goal.invariant-lines
invariant-lines l = l.same ≡ take l.line-index l.line-items
