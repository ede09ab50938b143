use Rattle.gm_feature.specs.Writer.{values_bytes}
use Rattle.gm_feature.proofs.Leaps.{identifier_string}
use Rattle.gm_feature.proofs.Seen.{stored_identifier}
use Rattle.gm_feature.proofs.stored.Stored.id.Goals as goal

pub returns : goal.returns
returns c = λ f is.
    let read = identifier_string c.args.self.now.bytes.now (f.id, values_bytes f.values)
    (stored_identifier c.args.self.now f is) in
    (c.short_string_at.ensures (f.id, values_bytes f.values) read).0
