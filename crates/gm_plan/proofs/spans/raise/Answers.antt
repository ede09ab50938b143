use Rattle.std.proofs.Common.{refl, arith}
use Rattle.gm_plan.proofs.Raising.{shorter, raised_up_to}
use Rattle.gm_plan.proofs.spans.raise.Goals as goal
use Rattle.gm_plan.proofs.spans.raise.Goals.{then-loop-end-test+else-bytes-end, else-loop-end-test}

pub loop-end-preserved : goal.loop-end-preserved
loop-end-preserved c = (
  omega arith,
  shorter c.args.bytes.now c.loop-end.end c.loop-end-test.true
      c.loop-end.invariant.0 c.if-bytes-end.true c.loop-end.invariant.1,
)

pub returns-then-end-gt0-clause-end : goal.returns-then-end-gt0-clause-end
returns-then-end-gt0-clause-end c = elim c.loop-end-test.branch [
  | then-loop-end-test+else-bytes-end w ↦
      raised_up_to c.args.bytes.now c.loop-end.end _ c.if-end-gt0.true c.loop-end.invariant.0 refl
      w.if-bytes-end.false c.loop-end.invariant.1
  | else-loop-end-test w ↦ absurd (omega (arith, w.loop-end-test.false, c.if-end-gt0.true))
]
