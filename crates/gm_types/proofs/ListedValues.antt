-- The settings of a type are among the listed values.
use Rattle.std.proofs.Common.{◌≡◌, ◌≤◌, arith, ℕ, Bool, true, false, List, Option, Some, None, refl}
use Rattle.std.specs.Prelude.{codes, if◌then◌else◌, option_and_then, unwrap_or, IsTrue}
use Rattle.std.proofs.lemmas.Bool.Decides.{nat_tests}
use Rattle.gm_types.specs.Specification.{setting_or, number_of, number_that, is_shard_count}
use Rattle.gm_types.specs.Specification.{is_precision, is_z2_width, is_z3_width, Specification}
use Rattle.gm_types.specs.Specification.{setting_of, shards_of, precision_of, z2_bits_of}
use Rattle.gm_types.specs.Specification.{z3_bits_of}

-- a number that is taken where it passes the test, beside one that passes it
chosen : (test : ℕ → Bool) (n standard : ℕ) (b : Bool) → test n ≡ b → IsTrue (test standard)
    → IsTrue (test (unwrap_or (if b then Some n else None) standard))
chosen test n standard true e h = search e
chosen test n standard false e h = h

written : (test : ℕ → Bool) (number : Option ℕ) (standard : ℕ) → IsTrue (test standard)
    → IsTrue (test
    (unwrap_or (option_and_then (λ n. if test n then Some n else None) number) standard))
written test None standard h = h
written test (Some n) standard h = chosen test n standard (test n) refl h

pub listed : (test : ℕ → Bool) (value : Option (List ℕ)) (standard : ℕ) → IsTrue (test standard)
    → IsTrue (test (setting_or (number_that test) value standard))
listed test None standard h = h
listed test (Some text) standard h = written test (number_of text) standard h

pub is_shard_count-shards_of : (t : Specification) → IsTrue (is_shard_count (shards_of t))
unfolding shards_of
is_shard_count-shards_of t = listed is_shard_count (setting_of t (codes "geomesa.z.splits")) 4 refl

pub is_precision-precision_of : (t : Specification) → IsTrue (is_precision (precision_of t))
unfolding precision_of
is_precision-precision_of t =
    listed is_precision (setting_of t (codes "geomesa.xz.precision")) 12 refl

pub is_z2_width-z2_bits_of : (t : Specification) → IsTrue (is_z2_width (z2_bits_of t))
unfolding z2_bits_of
is_z2_width-z2_bits_of t = listed is_z2_width (setting_of t (codes "gm.z2.bits")) 31 refl

pub is_z3_width-z3_bits_of : (t : Specification) → IsTrue (is_z3_width (z3_bits_of t))
unfolding z3_bits_of
is_z3_width-z3_bits_of t = listed is_z3_width (setting_of t (codes "gm.z3.bits")) 21 refl

pub shards_at_least-one : (n : ℕ) → IsTrue (is_shard_count n) → 1 ≤ n
shards_at_least-one n h = grind (arith, nat_tests)

pub shards_at_most-127 : (n : ℕ) → IsTrue (is_shard_count n) → n ≤ 127
shards_at_most-127 n h = grind (arith, nat_tests)
