-- Later places have no earlier cells; the settings of every specification are among those listed.
use Rattle.std.proofs.Common.{◌≡◌, ℕ, ◌-◌, ◌*◌, ◌/◌, ◌^◌, ◌<◌, ◌≤◌, min, Bool, true}
use Rattle.std.proofs.Common.{false, List, refl, Option, Some, None, arith}
use Rattle.std.proofs.lemmas.Int.{ints}
use Rattle.std.proofs.lemmas.Nat.{pow_pos}
use Rattle.std.specs.Prelude.{codes, ℤ, pos, negsuc, ◌+ℤ◌, ◌≤ℤ◌, option_and_then, unwrap_or}
use Rattle.std.specs.Prelude.{if◌then◌else◌}
use Rattle.gm_base.proofs.Numbers.{two_below, three_below}
use Rattle.gm_calendar.specs.declared.period.Period.{Period}
use Rattle.gm_calendar.specs.Period.{longest_of}
use Rattle.gm_curve.specs.Scale.{normal_of}
use Rattle.gm_geom.specs.declared.point.Point.{Point}
use Rattle.gm_types.specs.Specification.{Specification, setting_of, setting_or, number_of}
use Rattle.gm_types.specs.Specification.{number_that, is_shard_count, is_precision, is_z2_width}
use Rattle.gm_types.specs.Specification.{is_z3_width, shards_of, precision_of, z2_bits_of}
use Rattle.gm_types.specs.Specification.{z3_bits_of}
use Rattle.gm_trees.specs.Paths.{AreCoordinates}
use Rattle.gm_keys.specs.Cell.{natural, along, longitude_cell, latitude_cell, time_cell, cells_of}
use Rattle.gm_keys.specs.Cell.{cells_at}

abbrev pub Rises : Type 0
Rises = (u v span bits : ℕ) → u ≤ v → normal_of u span bits ≤ normal_of v span bits

natural_rises : (a b : ℤ) → a ≤ℤ b → natural a ≤ natural b
natural_rises (pos m) (pos n) h = omega (arith, ints)
natural_rises (pos m) (negsuc n) h = absurd (omega (arith, ints))
natural_rises (negsuc m) (pos n) h = omega arith
natural_rises (negsuc m) (negsuc n) h = omega arith

along_rises : (half : ℕ) (a b : ℤ) → a ≤ℤ b → along half a ≤ along half b
along_rises half a b h = natural_rises (a +ℤ pos half) (b +ℤ pos half) (omega (arith, ints))

pub longitude_rises : Rises → (bits : ℕ) (a b : ℤ) → a ≤ℤ b
    → longitude_cell bits a ≤ longitude_cell bits b
longitude_rises rises bits a b h =
    rises (along 1800000000 a) (along 1800000000 b) 3600000000 bits (along_rises 1800000000 a b h)

pub latitude_rises : Rises → (bits : ℕ) (a b : ℤ) → a ≤ℤ b
    → latitude_cell bits a ≤ latitude_cell bits b
latitude_rises rises bits a b h =
    rises (along 900000000 a) (along 900000000 b) 1800000000 bits (along_rises 900000000 a b h)

-- ---- cells are coordinates
pub normal_below : (u span bits : ℕ) → normal_of u span bits < 2 ^ bits
normal_below u span bits = least_one (2 ^ bits) (u * 2 ^ bits / span) (pow_pos bits)
  where
    least_one : (cells at : ℕ) → 0 < cells → min (cells - 1) at < cells
    least_one cells at some = omega arith

pub are_cells : (bits : ℕ) (p : Point) → AreCoordinates 2 bits (cells_of bits p)
are_cells bits p = record {
  length = refl;
  below = two_below (2 ^ bits) (longitude_cell bits p.x) (latitude_cell bits p.y)
      (normal_below (along 1800000000 p.x) 3600000000 bits)
      (normal_below (along 900000000 p.y) 1800000000 bits);
}

pub are_cells_at : (period : Period) (bits : ℕ) (p : Point) (offset : ℕ)
    → AreCoordinates 3 bits (cells_at period bits p offset)
are_cells_at period bits p offset = record {
  length = refl;
  below = three_below (2 ^ bits) (longitude_cell bits p.x) (latitude_cell bits p.y)
      (time_cell period bits offset)
      (normal_below (along 1800000000 p.x) 3600000000 bits)
      (normal_below (along 900000000 p.y) 1800000000 bits)
      (normal_below offset (longest_of period) bits);
}

-- ---- settings
passed_by : (test : ℕ → Bool) (d n : ℕ) (b : Bool) → test n ≡ b → test d ≡ true
    → test (unwrap_or (if b then Some n else None) d) ≡ true
passed_by test d n true e listed = e
passed_by test d n false e listed = listed

number_passes : (test : ℕ → Bool) (d : ℕ) (o : Option ℕ) → test d ≡ true
    → test (unwrap_or (option_and_then (λ n. if test n then Some n else None) o) d) ≡ true
number_passes test d None listed = listed
number_passes test d (Some n) listed = passed_by test d n (test n) refl listed

setting_passes : (test : ℕ → Bool) (d : ℕ) (value : Option (List ℕ)) → test d ≡ true
    → test (setting_or (number_that test) value d) ≡ true
setting_passes test d None listed = listed
setting_passes test d (Some text) listed = number_passes test d (number_of text) listed

pub shards_listed : (s : Specification) → is_shard_count (shards_of s) ≡ true
unfolding shards_of
shards_listed s = setting_passes is_shard_count 4 (setting_of s (codes "geomesa.z.splits")) refl

pub precision_listed : (s : Specification) → is_precision (precision_of s) ≡ true
unfolding precision_of
precision_listed s =
    setting_passes is_precision 12 (setting_of s (codes "geomesa.xz.precision")) refl

pub z2_listed : (s : Specification) → is_z2_width (z2_bits_of s) ≡ true
unfolding z2_bits_of
z2_listed s = setting_passes is_z2_width 31 (setting_of s (codes "gm.z2.bits")) refl

pub z3_listed : (s : Specification) → is_z3_width (z3_bits_of s) ≡ true
unfolding z3_bits_of
z3_listed s = setting_passes is_z3_width 21 (setting_of s (codes "gm.z3.bits")) refl
