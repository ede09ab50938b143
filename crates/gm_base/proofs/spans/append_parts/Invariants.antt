use Rattle.std.proofs.Common.{◌≡◌, ◌++◌, take}
use Rattle.gm_base.specs.Spans.{joined}
use Rattle.gm_base.proofs.spans.append_parts.Given as goal

abbrev pub invariant-loop-part : goal.invariant-loop-part
invariant-loop-part l = l.bytes.items ≡ l.fn.bytes.items ++ joined (take l.part-index l.parts)
