use Rattle.std.proofs.Common.{◌∙◌, ap, is_none}
use Rattle.gm_keys.proofs.KeyParts.{if_ok}
use Rattle.gm_keys.proofs.key.key_of.Goals as goal

pub returns-clause-none : goal.returns-clause-none
returns-clause-none c =
    if_ok c.key_in.result _ _
    (λ key is. ap is_none is
    ∙ c.keys_are_missing_where_values_are.ensures c.args.of.now c.args.kind
    c.args.feature.now c.types_hold_together.ensures.together c.requires.fits
    c.requires.has) c.key_in.ensures
