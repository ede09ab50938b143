use Rattle.std.proofs.Common.{sym, subst}
use Rattle.std.proofs.lemmas.Result.{on_ok_weaker}
use Rattle.gm_split.specs.Opening.{own_pieces}
use Rattle.gm_split.specs.Front.{Takes}
use Rattle.gm_split.proofs.opening.push_own.Goals as goal

pub returns-in-Some : goal.returns-in-Some
returns-in-Some c =
    on_ok_weaker c.settle.result
    (λ t s. subst (λ o. Takes s (own_pieces o) c.args.into.now c.settle.new.self)
    (sym c.in-Some.is) (t s)) c.settle.ensures
