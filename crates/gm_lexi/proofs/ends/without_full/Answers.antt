use Rattle.std.proofs.Common.{arith}
use Rattle.gm_lexi.proofs.Raising.{shorter}
use Rattle.gm_lexi.proofs.ends.without_full.Goals as goal

pub loop-end-preserved : goal.loop-end-preserved
loop-end-preserved c = (
  omega arith,
  shorter c.args.bytes.now c.loop-end.end c.loop-end-test.true
      c.loop-end.invariant.0 c.if-bytes-end.true c.loop-end.invariant.1,
)
