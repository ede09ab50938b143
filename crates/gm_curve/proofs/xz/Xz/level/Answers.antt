use Rattle.std.proofs.Common.{◌-◌, ◌^◌, sym, ◌∙◌, subst, arith}
use Rattle.std.proofs.lemmas.Bool.{false≢true}
use Rattle.gm_curve.specs.Xz.{IsCovered}
use Rattle.gm_curve.proofs.Bits.{each_below}
use Rattle.gm_curve.proofs.Levels.{Found, IsLongest, digits, found_finer, found_coarser}
use Rattle.gm_curve.proofs.Levels.{digits_most, low_fits}
use Rattle.gm_curve.proofs.xz.Xz.level.Goals as goal

pub is_covered-requires-clause-below : goal.is_covered-requires-clause-below
is_covered-requires-clause-below g c =
    low_fits g.row.G c.args.low.now c.args.high.now c.requires.most c.requires.ordered
    (each_below g.row.G c.args.high.now c.requires.below)

pub overflow_sub-result : goal.overflow_sub-result
overflow_sub-result g c =
    let longest : IsLongest c.args.low.now c.args.high.now c.longest_side-side.result =
    record {
      most = c.longest_side-side.ensures.most;
      least = c.longest_side-side.ensures.least;
    } in
    let few = digits_most g.row.G c.longest_side-side.result c.args.low.now c.args.high.now
    (each_below g.row.G c.args.high.now c.requires.below)
    c.longest_side-side.type_inv longest in
    omega (arith, few, c.saturating_sub-finer.ensures)

pub overflow_sub-result-else-is_covered : goal.overflow_sub-result-else-is_covered
overflow_sub-result-else-is_covered g c =
    let longest : IsLongest c.args.low.now c.args.high.now c.longest_side-side.result =
    record {
      most = c.longest_side-side.ensures.most;
      least = c.longest_side-side.ensures.least;
    } in
    digits_most g.row.G c.longest_side-side.result c.args.low.now c.args.high.now
    (each_below g.row.G c.args.high.now c.requires.below) c.longest_side-side.type_inv longest

pub returns-then-is_covered : goal.returns-then-is_covered
returns-then-is_covered g c =
    let low = c.args.low.now in
    let high = c.args.high.now in
    let side = c.longest_side-side.result in
    let finer = c.saturating_sub-finer.ensures in
    let longest : IsLongest low high side =
    record {
      most = c.longest_side-side.ensures.most;
      least = c.longest_side-side.ensures.least;
    } in
    let covered : IsCovered (2 ^ (digits side - 1)) low high =
    subst (λ n. IsCovered (2 ^ n) low high) finer
    (c.is_covered.ensures.0 c.if-is_covered.true) in
    let level : Found g.row.G (g.row.G - (digits side - 1)) low high =
    found_finer g.row.G side low high c.requires.least
    (c.requires.high_length ∙ sym c.requires.low_length)
    (each_below g.row.G high c.requires.below) c.longest_side-side.type_inv
    longest covered in
    rw finer (record { level = level.number; greatest = level.is; some = level.some })

pub returns-else-is_covered : goal.returns-else-is_covered
returns-else-is_covered g c =
    let low = c.args.low.now in
    let high = c.args.high.now in
    let side = c.longest_side-side.result in
    let finer = c.saturating_sub-finer.ensures in
    let longest : IsLongest low high side =
    record {
      most = c.longest_side-side.ensures.most;
      least = c.longest_side-side.ensures.least;
    } in
    let level : Found g.row.G (g.row.G - digits side) low high =
    found_coarser g.row.G side low high c.requires.least
    (c.requires.high_length ∙ sym c.requires.low_length)
    (each_below g.row.G high c.requires.below) c.longest_side-side.type_inv longest
    (λ covered. false≢true
    (sym c.if-is_covered.false
    ∙ c.is_covered.ensures.1
    (subst (λ n. IsCovered (2 ^ n) low high) (sym finer) covered))) in
    record { level = level.number; greatest = level.is; some = level.some }
