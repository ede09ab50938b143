use Rattle.std.proofs.Common.{⊎_elim}
use Rattle.std.proofs.lemmas.Bool.{cases_lt}
use Rattle.gm_curve.proofs.Bits.{codes_rise, code_has_bits, each_below}
use Rattle.gm_curve.proofs.curve.codes_rise.Goals as goal

pub returns : goal.returns
returns g c = λ a b size_a size_b below_a below_b most.
    ⊎_elim
    (λ less. absurd
    (codes_rise g.row.D g.row.B a b _ _ c.requires (each_below g.row.B a below_a)
    (each_below g.row.B b below_b) most (code_has_bits g.row.D g.row.B a size_a)
    (code_has_bits g.row.D g.row.B b size_b) less))
    (λ fine. fine)
    (cases_lt _ _)
