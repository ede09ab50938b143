use Rattle.std.proofs.Common.{◌≡◌, fold, take}
use Rattle.gm_base.specs.Hash.{hash_step}
use Rattle.gm_base.proofs.hash.fnv1a.Given as goal

abbrev pub invariant-loop-byte : goal.invariant-loop-byte
invariant-loop-byte l = l.hash ≡ fold hash_step 2166136261 (take l.byte-index l.bytes)
