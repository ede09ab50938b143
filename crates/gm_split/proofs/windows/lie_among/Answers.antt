use Rattle.std.proofs.Common.{◌<◌, refl, sym, ap, ◌∙◌, w64, arith}
use Rattle.std.specs.Int.{bit_at, trailing_zeros}
use Rattle.std.proofs.lemmas.Nat.Bits.{bit_at-zero}
use Rattle.gm_split.proofs.Near.{zero_or_more, looked_end, looked_past, lie_inside, left_less}
use Rattle.gm_split.proofs.Near.{looked_apart, looked_near}
use Rattle.gm_split.proofs.windows.lie_among.Goals as goal

pub returns-then-at-windows : goal.returns-then-at-windows
returns-then-at-windows g c =
    let some : 0 < c.loop-left.left = zero_or_more c.loop-left.left c.loop-left-test.true in
    let fits : c.loop-left.left < 18446744073709551616 =
    omega (arith, c.loop-left.auto.left-fits) in
    looked_past g.row.D c.args.windows.now c.args.reach.now c.loop-left.left c.loop-left.near
    (trailing_zeros w64 c.loop-left.left) some fits refl c.requires.few c.loop-left.invariant
    c.if-at-windows.true c.requires.rising

pub returns-then-is_within : goal.returns-then-is_within
returns-then-is_within g c =
    lie_inside g.row.D c.args.windows.now c.args.reach.now (trailing_zeros w64 c.loop-left.left) _
    (omega (arith, c.if-at-windows.false)) (sym c.is_within.ensures ∙ c.if-is_within.true)

pub loop-left-smaller-then-overlaps : goal.loop-left-smaller-then-overlaps
loop-left-smaller-then-overlaps g c =
    let some : 0 < c.loop-left.left = zero_or_more c.loop-left.left c.loop-left-test.true in
    let fits : c.loop-left.left < 18446744073709551616 =
    omega (arith, c.loop-left.auto.left-fits) in
    left_less g.row.D c.args.windows.now c.args.reach.now c.loop-left.left c.loop-left.near
    (trailing_zeros w64 c.loop-left.left) some fits refl c.requires.few c.loop-left.invariant

pub loop-left-preserved-then-overlaps : goal.loop-left-preserved-then-overlaps
loop-left-preserved-then-overlaps g c =
    let some : 0 < c.loop-left.left = zero_or_more c.loop-left.left c.loop-left-test.true in
    let fits : c.loop-left.left < 18446744073709551616 =
    omega (arith, c.loop-left.auto.left-fits) in
    looked_near g.row.D c.args.windows.now c.args.reach.now c.loop-left.left c.loop-left.near
    (trailing_zeros w64 c.loop-left.left) some fits refl c.requires.few c.loop-left.invariant _
    (omega (arith, c.if-at-windows.false)) (sym c.overlaps.ensures ∙ c.if-overlaps.true)
    (sym c.is_within.ensures ∙ c.if-is_within.false)

pub loop-left-smaller : goal.loop-left-smaller
loop-left-smaller g c =
    let some : 0 < c.loop-left.left = zero_or_more c.loop-left.left c.loop-left-test.true in
    let fits : c.loop-left.left < 18446744073709551616 =
    omega (arith, c.loop-left.auto.left-fits) in
    left_less g.row.D c.args.windows.now c.args.reach.now c.loop-left.left c.loop-left.near
    (trailing_zeros w64 c.loop-left.left) some fits refl c.requires.few c.loop-left.invariant

pub loop-left-preserved : goal.loop-left-preserved
loop-left-preserved g c =
    let some : 0 < c.loop-left.left = zero_or_more c.loop-left.left c.loop-left-test.true in
    let fits : c.loop-left.left < 18446744073709551616 =
    omega (arith, c.loop-left.auto.left-fits) in
    looked_apart g.row.D c.args.windows.now c.args.reach.now c.loop-left.left c.loop-left.near
    (trailing_zeros w64 c.loop-left.left) some fits refl c.requires.few c.loop-left.invariant _
    (omega (arith, c.if-at-windows.false)) (sym c.overlaps.ensures ∙ c.if-overlaps.false)

pub returns : goal.returns
returns g c =
    looked_end g.row.D c.args.windows.now c.args.reach.now c.loop-left.left c.loop-left.near
    c.requires.rising c.loop-left.invariant
    (λ i inside one. let z = bit_at-zero i in let e = ap (λ n. bit_at n i) c.loop-left-test.false in
    omega (arith, one, z, e))
