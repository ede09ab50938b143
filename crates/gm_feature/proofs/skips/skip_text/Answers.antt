use Rattle.gm_feature.proofs.Leaps.{text_string}
use Rattle.gm_feature.proofs.skips.skip_text.Goals as goal

pub returns : goal.returns
returns c = λ x e. (c.string_at.ensures x (text_string c.args.bytes.now x e)).1
