use Rattle.gm_curve.proofs.Bits.{code_has_bits}
use Rattle.gm_curve.proofs.curve.code_by_bits.Goals as goal

pub returns : goal.returns
returns g c = λ at size. code_has_bits g.row.D g.row.B at size
