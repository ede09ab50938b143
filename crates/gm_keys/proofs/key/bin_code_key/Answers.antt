use Rattle.std.proofs.Common.{ap, ◌∙◌, ◌++◌, ◌∷◌, []}
use Rattle.byteorder.specs.Endian.{big_bytes}
use Rattle.gm_keys.specs.Key.{prefix_of, shard_of, bin_code_front}
use Rattle.gm_keys.proofs.KeyParts.{appended}
use Rattle.gm_keys.proofs.key.bin_code_key.Goals as goal

pub returns : goal.returns
unfolding bin_code_front
returns c =
    appended (prefix_of c.args.of.now c.args.kind) (big_bytes 2 c.args.bin)
    (big_bytes 8 c.args.code) c.args.id.now (shard_of c.args.of.now c.args.id.now)
    c.append.new.self c.put_number.new.key c.put_code.new.key c.append-2.new.self
    (c.in_ok-append.ensures.ok ∙ (λ i. c.in_ok-key.ensures i ++ c.shard_of.ensures i ∷ []))
    c.in_ok-put_number.ensures c.in_ok-put_code.ensures
    (c.in_ok-append-2.ensures.ok ∙ ap (λ id. c.put_code.new.key ++ id) c.as_bytes-2.ensures.bytes)
