use Rattle.std.proofs.Common.{ap, sym, ◌∙◌}
use Rattle.gm_keys.specs.Key.{key_of}
use Rattle.gm_keys.proofs.KeyParts.{id_some}
use Rattle.gm_keys.proofs.key.key_in.Goals as goal

pub returns-in_ok-id_key-in-Id : goal.returns-in_ok-id_key-in-Id
returns-in_ok-id_key-in-Id c =
    id_some c.args.of.now c.args.feature.now c.in_ok-id_key-in-Id.field-0
    c.in_ok-id_key-in-Id.ensures
    ∙ ap (λ kind. key_of c.args.of.now kind c.args.feature.now) (sym c.in-Id.is)
