use Rattle.gm_feature.proofs.Leaps.{identifier_string}
use Rattle.gm_feature.proofs.stored.values_of.Goals as goal

pub returns : goal.returns
returns c = λ x e. (c.short_string_at.ensures x (identifier_string c.args.bytes.now x e)).1
