use Rattle.std.proofs.Common.{ap, ◌∙◌, ◌++◌, ℕ}
use Rattle.gm_types.specs.declared.index.IndexKind.TheVariants.{Z2}
use Rattle.gm_keys.specs.Cell.{z2_code}
use Rattle.gm_keys.specs.Key.{prefix_of, shard_of, code_front}
use Rattle.gm_keys.proofs.KeyParts.{z2_some, z2_none}
use Rattle.gm_keys.proofs.key.z2_key.Goals as goal

pub returns : goal.returns
returns c =
    let t = c.args.of.now in
    let f = c.args.feature.now in
    z2_some t f c.in-Some.point c.in_ok-code_key.field-0 c.in-Some.ensures.value
    (c.in_ok-code_key.ensures
    ∙ ap (λ (code : ℕ). code_front (prefix_of t Z2) (shard_of t f.id) code ++ f.id)
    (c.z2_code-code.ensures
    ∙ ap (λ (bits : ℕ). z2_code bits c.in-Some.point) c.z2_bits.ensures.value))

pub returns-in_default : goal.returns-in_default
returns-in_default c = z2_none c.args.of.now c.args.feature.now c.in_default.ensures.value
