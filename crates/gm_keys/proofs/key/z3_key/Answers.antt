use Rattle.std.proofs.Common.{ap, ◌∙◌, ◌++◌, ℕ}
use Rattle.gm_types.specs.declared.index.IndexKind.TheVariants.{Z3}
use Rattle.gm_keys.specs.Cell.{z3_code}
use Rattle.gm_keys.specs.Key.{prefix_of, shard_of, bin_code_front}
use Rattle.gm_keys.proofs.KeyParts.{z3_some, z3_no_bin, z3_no_point}
use Rattle.gm_keys.proofs.key.z3_key.Goals as goal

pub returns : goal.returns
returns c =
    let t = c.args.of.now in
    let f = c.args.feature.now in
    let bin = c.in-Some-bin_in.bin in
    z3_some t f c.in-Some.point bin c.in_ok-key.key c.in-Some.ensures.value
    c.in-Some-bin_in.ensures.value
    (c.in_ok-key.ensures
    ∙ ap (λ (code : ℕ). bin_code_front (prefix_of t Z3) (shard_of t f.id) bin.number
    code ++ f.id)
    (c.z3_code-code.ensures
    ∙ (λ i. z3_code (c.period.ensures i) (c.z3_bits.ensures.value i) c.in-Some.point
    bin.offset)))

pub returns-in_default-bin_in : goal.returns-in_default-bin_in
returns-in_default-bin_in c =
    z3_no_bin c.args.of.now c.args.feature.now c.in-Some.point c.in-Some.ensures.value
    c.in_default-bin_in.ensures.value

pub returns-in_default : goal.returns-in_default
returns-in_default c = z3_no_point c.args.of.now c.args.feature.now c.in_default.ensures.value
