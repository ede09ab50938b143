-- Hashes that Fowler, Noll and Vo published, and one that the shards use.
use Rattle.std.proofs.Common.{◌≡◌, [], refl}
use Rattle.std.specs.Prelude.{codes}
use Rattle.gm_base.specs.Hash.{fnv1a_of}

hash_of_nothing : fnv1a_of [] ≡ 0x811C9DC5
hash_of_nothing = refl

hash_of_a : fnv1a_of (codes "a") ≡ 0xE40C292C
hash_of_a = refl

hash_of_foobar : fnv1a_of (codes "foobar") ≡ 0xBF9CF968
hash_of_foobar = refl

hash_of_f1 : fnv1a_of (codes "f1") ≡ 337800568
hash_of_f1 = refl
