use Rattle.std.proofs.Common.{◌≡◌, ◌-◌, suc, sym, ap, ◌∙◌, arith}
use Rattle.gm_base.specs.Spans.{start_at}
use Rattle.gm_base.proofs.Buffers.{start_at-next}
use Rattle.gm_base.proofs.spans.start_of.Goals as goal

pub returns-else-i-eq0 : goal.returns-else-i-eq0
returns-else-i-eq0 c =
    let next : c.args.i ≡ suc (c.args.i - 1) = omega arith in
    sym (ap (λ i. start_at 0 i c.args.ends.now) next
    ∙ start_at-next 0 (c.args.i - 1) c.args.ends.now (record { low = 0; high = 0 })
    (omega arith))
