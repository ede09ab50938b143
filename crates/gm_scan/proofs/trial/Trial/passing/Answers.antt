use Rattle.std.proofs.Common.{Some, None, cond, sym, ap, ◌∙◌}
use Rattle.std.proofs.lemmas.Result.{IfOk-weaker}
use Rattle.gm_scan.proofs.trial.Trial.passing.Goals as goal

pub returns-then-not-branch : goal.returns-then-not-branch
returns-then-not-branch c = λ f are.
    ap (λ b. cond b (Some f) None) (sym c.if-not-branch.true ∙ c.in_ok-passes.ensures f are)

pub returns : goal.returns
returns c = λ f are.
    IfOk-weaker c.from_bytes.result _ _
    (λ o is. is ∙ ap (λ b. cond b (Some f) None)
    (sym c.if-not-branch.false ∙ c.in_ok-passes.ensures f are))
    (c.from_bytes.ensures.only f are.fits are.same)
