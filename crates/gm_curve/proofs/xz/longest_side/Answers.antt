use Rattle.std.proofs.Common.{◌≡◌, ⊎_elim, ◌<◌, ◌≤◌, arith}
use Rattle.std.proofs.lemmas.Bool.{cases_lt}
use Rattle.gm_curve.proofs.xz.longest_side.Goals as goal

pub loop-d-preserved : goal.loop-d-preserved
loop-d-preserved c = record {
  most = λ k inside. ⊎_elim
      (λ before. let less : k < c.loop-d.d = before in
      omega (arith, c.loop-d.invariant.most k less, c.max-side.ensures))
      (λ here. let more : c.loop-d.d ≤ k = here in let same : k
      ≡ c.loop-d.d = omega (arith, more, inside) in rw same (omega (arith, c.max-side.ensures)))
      (cases_lt k c.loop-d.d);
  least = λ n sides. omega
      (arith, c.loop-d.invariant.least n sides, sides c.loop-d.d, c.max-side.ensures);
}
