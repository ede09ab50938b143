use Rattle.gm_curve.proofs.Bits.{same_codes}
use Rattle.gm_curve.proofs.curve.codes_are_one.Goals as goal

pub returns : goal.returns
returns g c = λ at code other first second. same_codes g.row.D g.row.B at code other
    c.requires first second
