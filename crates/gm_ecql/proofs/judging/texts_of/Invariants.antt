use Rattle.std.proofs.Common.{◌≡◌, take, map}
use Rattle.gm_ecql.specs.Token.{undoubled}
use Rattle.gm_ecql.proofs.judging.texts_of.Given as goal

abbrev pub invariant-texts : goal.invariant-texts
invariant-texts l = l.list ≡ map (λ t. undoubled t.now) (take l.text-index l.texts)
