use Rattle.std.proofs.Common.{◌≡◌, ⊎_elim, ℕ, ◌/◌, ◌^◌, ◌<◌, ◌≤◌, length, ◌∙◌, arith}
use Rattle.std.specs.Prelude.{slice_index}
use Rattle.gm_curve.specs.Curve.{IsZCode}
use Rattle.gm_curve.specs.Spreading.{gather_of}
use Rattle.gm_curve.proofs.Bits.{code_has_bits, same_codes}
use Rattle.gm_curve.proofs.Interleaved.{gathered_code, gathered_fit}
use Rattle.gm_curve.proofs.curve.Curve.decode.Goals as goal

pub returns : goal.returns
returns g c =
    let at = c.loop-d.at in
    let some : 2 ≤ g.row.D =
    ⊎_elim (λ two. omega arith) (λ three. omega arith) c.requires.dimensions in
    let size : length at ≡ g.row.D = c.loop-d.auto.at ∙ c.requires.length in
    let each : (d : ℕ) → d < g.row.D → slice_index at d ≡ gather_of g.row.D (c.args.code / 2 ^ d) =
    λ d inside. c.loop-d.invariant d
    (omega (arith, inside, c.requires.length, c.loop-d-test.false)) in
    let found : IsZCode g.row.D g.row.B at c.args.code =
    gathered_code g.row.D g.row.B c.args.code at some c.requires.fits c.requires.below each in
    record {
      length = size;
      below = gathered_fit g.row.D g.row.B c.args.code at c.requires.below
          (λ d inside. each d (omega (arith, inside, size)));
      code = same_codes g.row.D g.row.B at _ _ (omega (arith, some))
          (code_has_bits g.row.D g.row.B at size) found;
      bits = found;
    }
