use Rattle.std.proofs.Common.{◌≡◌, sym, ap, ◌∙◌, arith}
use Rattle.std.specs.Prelude.{slice_get}
use Rattle.gm_curve.specs.Listing.{listing}
use Rattle.gm_curve.specs.Xz.{sequence_of, level_of, xz_code}
use Rattle.gm_curve.proofs.Codes.{is_sequence, next_step, next_fits, ends_at_place}
use Rattle.gm_curve.proofs.Places.{place, place_closed, listed}
use Rattle.gm_curve.proofs.xz.Xz.code.Goals as goal

pub overflow_mul-code : goal.overflow_mul-code
overflow_mul-code g c =
    let fits = next_fits g.row.D g.row.G c.level-level.result c.loop-i.i c.loop-i.code
    c.bits_of.result c.sequences.result c.args.low.now c.requires.dimensions c.requires.most
    c.requires.low_length c.loop-i-test.true c.level-level.ensures.greatest.most
    c.bits_of.ensures.bits c.sequences.ensures c.loop-i.invariant in
    omega (arith, fits)

pub overflow_add-code : goal.overflow_add-code
overflow_add-code g c =
    let fits = next_fits g.row.D g.row.G c.level-level.result c.loop-i.i c.loop-i.code
    c.bits_of.result c.sequences.result c.args.low.now c.requires.dimensions c.requires.most
    c.requires.low_length c.loop-i-test.true c.level-level.ensures.greatest.most
    c.bits_of.ensures.bits c.sequences.ensures c.loop-i.invariant in
    omega (arith, fits)

pub overflow_add-code-in-loop-i : goal.overflow_add-code-in-loop-i
overflow_add-code-in-loop-i g c =
    let fits = next_fits g.row.D g.row.G c.level-level.result c.loop-i.i c.loop-i.code
    c.bits_of.result c.sequences.result c.args.low.now c.requires.dimensions c.requires.most
    c.requires.low_length c.loop-i-test.true c.level-level.ensures.greatest.most
    c.bits_of.ensures.bits c.sequences.ensures c.loop-i.invariant in
    omega (arith, fits)

pub loop-i-preserved : goal.loop-i-preserved
loop-i-preserved g c =
    next_step g.row.D g.row.G c.level-level.result c.loop-i.i c.loop-i.code c.bits_of.result
    c.sequences.result _ c.args.low.now c.loop-i-test.true c.level-level.ensures.greatest.most
    c.bits_of.ensures.bits c.sequences.ensures c.loop-i.invariant

pub returns : goal.returns
returns g c =
    let low = c.args.low.now in
    let level = level_of g.row.G low c.args.high.now in
    let sequence = sequence_of g.row.G level low in
    let is = is_sequence g.row.D g.row.G level low c.requires.low_length in
    let end : c.loop-i.code ≡ place g.row.D g.row.G (sequence_of g.row.G c.level-level.result low) =
    ends_at_place g.row.D g.row.G c.level-level.result c.loop-i.i c.loop-i.code low
    (omega (arith, c.loop-i-test.false, c.loop-i.auto.i-end)) c.loop-i.invariant in
    let closed : c.loop-i.code ≡ xz_code g.row.D g.row.G low c.args.high.now =
    end ∙ ap (λ l. place g.row.D g.row.G (sequence_of g.row.G l low)) c.level-level.ensures.level
    ∙ sym (place_closed g.row.D g.row.G sequence is) in
    record {
      code = closed;
      listed = ap (slice_get (listing g.row.D g.row.G)) closed ∙ listed g.row.D g.row.G sequence is;
    }
