use Rattle.std.proofs.Common.{◌≡◌, ◌*◌, ◌^◌, ◌%◌, arith}
use Rattle.std.proofs.lemmas.Nat.{one_shl}
use Rattle.gm_base.proofs.Numbers.{two_at_least}
use Rattle.gm_curve.proofs.Codes.{count_closed, shifted_one}
use Rattle.gm_curve.proofs.xz.sequences.Goals as goal

pub nonzero_div-result : goal.nonzero_div-result
nonzero_div-result c =
    let width : 1 * 2 ^ c.args.dimensions % 2 ^ 64 ≡ 2 ^ c.args.dimensions =
    one_shl c.args.dimensions 64 (omega arith) in
    omega (arith, width, two_at_least c.args.dimensions c.requires.some)

pub returns : goal.returns
returns c =
    let width : 1 * 2 ^ c.args.dimensions % 2 ^ 64 ≡ 2 ^ c.args.dimensions =
    one_shl c.args.dimensions 64 (omega arith) in
    rw (shifted_one c.args.dimensions c.args.sequence_places c.requires.few c.requires.most)
    (rw width (count_closed c.args.dimensions c.args.sequence_places c.requires.some
    c.requires.least))
