use Rattle.std.proofs.Common.{◌≡◌, arith}
use Rattle.gm_curve.proofs.Bits.{code_has_bits, same_codes, each_below}
use Rattle.gm_curve.proofs.Interleaved.{two_interleaved, three_interleaved, third_fits}
use Rattle.gm_curve.proofs.curve.Curve.encode.Goals as goal

pub spread_by_three-requires : goal.spread_by_three-requires
spread_by_three-requires g c =
    let three : g.row.D ≡ 3 =
    omega (arith, c.requires.length, c.in-len3.len_below, c.in-len3.len_at_least) in
    third_fits g.row.D g.row.B _ three c.requires.fits
    (each_below g.row.B c.args.at.now c.requires.below 0)

pub spread_by_three-requires-in-len3 : goal.spread_by_three-requires-in-len3
spread_by_three-requires-in-len3 g c =
    let three : g.row.D ≡ 3 =
    omega (arith, c.requires.length, c.in-len3.len_below, c.in-len3.len_at_least) in
    third_fits g.row.D g.row.B _ three c.requires.fits
    (each_below g.row.B c.args.at.now c.requires.below 1)

pub spread_by_three-requires-in-len3-2 : goal.spread_by_three-requires-in-len3-2
spread_by_three-requires-in-len3-2 g c =
    let three : g.row.D ≡ 3 =
    omega (arith, c.requires.length, c.in-len3.len_below, c.in-len3.len_at_least) in
    third_fits g.row.D g.row.B _ three c.requires.fits
    (each_below g.row.B c.args.at.now c.requires.below 2)

pub returns-in-len2 : goal.returns-in-len2
returns-in-len2 g c =
    let two : g.row.D ≡ 2 =
    omega (arith, c.requires.length, c.in-len2.len_below, c.in-len2.len_at_least) in
    let at = c.args.at.now in
    let found = two_interleaved g.row.D g.row.B at _ _ two c.requires.fits
    (each_below g.row.B at c.requires.below) c.spread_by_two.ensures
    c.spread_by_two-in-len2.ensures in
    record {
      code = same_codes g.row.D g.row.B at _ _ (omega (arith, two)) found
          (code_has_bits g.row.D g.row.B at c.requires.length);
      bits = found;
    }

pub returns-in-len3 : goal.returns-in-len3
returns-in-len3 g c =
    let three : g.row.D ≡ 3 =
    omega (arith, c.requires.length, c.in-len3.len_below, c.in-len3.len_at_least) in
    let at = c.args.at.now in
    let found = three_interleaved g.row.D g.row.B at _ _ _ three c.requires.fits
    (each_below g.row.B at c.requires.below) c.spread_by_three.ensures
    c.spread_by_three-in-len3.ensures c.spread_by_three-in-len3-2.ensures in
    record {
      code = same_codes g.row.D g.row.B at _ _ (omega (arith, three)) found
          (code_has_bits g.row.D g.row.B at c.requires.length);
      bits = found;
    }
