use Rattle.gm_curve.proofs.Codes.{length-sequence, bit_at-sequence, is_sequence}
use Rattle.gm_curve.proofs.xz.sequences_by_bits.Goals as goal

pub returns : goal.returns
returns g c = record {
  count = length-sequence g.row.G;
  bits = bit_at-sequence g.row.G;
  sequence = is_sequence g.row.D g.row.G;
}
