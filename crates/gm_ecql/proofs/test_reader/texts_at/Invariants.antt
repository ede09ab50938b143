use Rattle.std.proofs.Common.{length, map}
use Rattle.gm_ecql.specs.Reader.{text_at, texts_at}
use Rattle.gm_ecql.specs.Token.{seen_all, undoubled}
use Rattle.gm_ecql.proofs.Gathering.{Gathering}
use Rattle.gm_ecql.proofs.test_reader.texts_at.Given as goal

abbrev pub invariant-texts : goal.invariant-texts
invariant-texts l =
    Gathering text_at (map (λ t. undoubled t.now) l.texts.items) (seen_all l.rest)
    (texts_at (seen_all l.tokens))

abbrev pub decreases-texts : goal.decreases-texts
decreases-texts l = length l.rest
