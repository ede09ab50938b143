use Rattle.std.proofs.Common.{sym, subst}
use Rattle.std.proofs.lemmas.Result.{on_ok_weaker}
use Rattle.gm_split.specs.Opening.{opened_piece}
use Rattle.gm_split.specs.Front.{Takes}
use Rattle.gm_split.proofs.opening.open_piece.Goals as goal

pub returns-in-Codes-clause-ok : goal.returns-in-Codes-clause-ok
returns-in-Codes-clause-ok g c =
    let s = g.T.Tree.shape c.args.tree.now in
    on_ok_weaker c.settle.result
    (λ t. subst (λ p. Takes s (opened_piece g.row.D s c.args.windows.now p) c.args.into.now
    c.settle.new.self) (sym c.in-Codes.is) (t s)) c.settle.ensures
