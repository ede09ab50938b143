use Rattle.std.proofs.Common.{◌∙◌, ◌++◌, sym, append_assoc}
use Rattle.gm_block.specs.Parts.{part_bytes}
use Rattle.gm_block.proofs.Spellings.{same_part}
use Rattle.gm_block.proofs.parts.read_row.Goals as goal

-- a key stands there, and no bytes behind it
pub returns-in_err-part : goal.returns-in_err-part
returns-in_err-part c = rw c.from_residual-in_err-part.ensures (λ row rest short whole.
    let key = same_part c.in_ok-key.key.now row.key c.in_ok-key.later.now
    (part_bytes row.bytes ++ rest) c.in_ok-key.ensures.1 short.0
    (sym c.in_ok-key.ensures.0 ∙ whole
    ∙ append_assoc (part_bytes row.key) (part_bytes row.bytes) rest) in
    c.in_err-part.ensures row.bytes rest short.1 key.1)
