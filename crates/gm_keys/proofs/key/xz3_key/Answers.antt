use Rattle.std.proofs.Common.{ap, ◌∙◌, ◌++◌, ℕ}
use Rattle.gm_types.specs.declared.index.IndexKind.TheVariants.{Xz3}
use Rattle.gm_keys.specs.Cell.{xz3_code}
use Rattle.gm_keys.specs.Key.{prefix_of, shard_of, bin_code_front}
use Rattle.gm_keys.proofs.KeyParts.{xz3_some, xz3_no_bin, xz3_no_box}
use Rattle.gm_keys.proofs.key.xz3_key.Goals as goal

pub returns : goal.returns
returns c =
    let t = c.args.of.now in
    let f = c.args.feature.now in
    let bin = c.in-Some-bin_in.bin in
    xz3_some t f c.in-Some.extent bin c.in_ok-key.key c.in-Some.ensures.value
    c.in-Some-bin_in.ensures.value
    (c.in_ok-key.ensures
    ∙ ap (λ (code : ℕ). bin_code_front (prefix_of t Xz3) (shard_of t f.id) bin.number
    code ++ f.id)
    (c.xz3_code-code.ensures
    ∙ (λ i. xz3_code (c.period.ensures i) (c.precision.ensures.value i) c.in-Some.extent
    bin.offset)))

pub returns-in_default-bin_in : goal.returns-in_default-bin_in
returns-in_default-bin_in c =
    xz3_no_bin c.args.of.now c.args.feature.now c.in-Some.extent c.in-Some.ensures.value
    c.in_default-bin_in.ensures.value

pub returns-in_default : goal.returns-in_default
returns-in_default c = xz3_no_box c.args.of.now c.args.feature.now c.in_default.ensures.value
