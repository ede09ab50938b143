use Rattle.std.proofs.Common.{◌-◌, sym, ◌∙◌, arith}
use Rattle.gm_types.proofs.Cuts.{one_less, ended, none_left}
use Rattle.gm_types.proofs.parts.trimmed_end.Goals as goal
use Rattle.gm_types.proofs.parts.trimmed_end.Goals.{then-loop-len-test+else-is_blank}
use Rattle.gm_types.proofs.parts.trimmed_end.Goals.{else-loop-len-test}

pub loop-len-preserved : goal.loop-len-preserved
loop-len-preserved c = record {
  within = omega arith;
  same = one_less c.args.text.now c.loop-len.len (c.loop-len.len - 1) (omega arith) (omega arith)
      (sym c.if-is_blank.ensures) ∙ c.loop-len.invariant.same;
}

pub returns : goal.returns
returns c = elim c.loop-len-test.branch [
  | then-loop-len-test+else-is_blank w ↦
      ended c.args.text.now c.loop-len.len (c.loop-len.len - 1) (omega arith) (omega arith)
      (sym w.if-is_blank.ensures) ∙ c.loop-len.invariant.same
  | else-loop-len-test w ↦
      none_left c.args.text.now c.loop-len.len (omega arith) ∙ c.loop-len.invariant.same
]
