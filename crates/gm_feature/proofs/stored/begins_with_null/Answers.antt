use Rattle.std.proofs.Common.{arith}
use Rattle.gm_feature.proofs.Leaps.{no_value, null_tells}
use Rattle.gm_feature.proofs.stored.begins_with_null.Goals as goal

pub returns-in-empty : goal.returns-in-empty
returns-in-empty c =
    λ kind x e. absurd (no_value kind c.args.bytes.now x (omega (arith, c.in-empty.len_below)) e)

pub returns-in-len1-up : goal.returns-in-len1-up
returns-in-len1-up c = λ kind x e. null_tells kind c.args.bytes.now x e
