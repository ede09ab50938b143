-- Keys and codes at known values.
use Rattle.std.proofs.Common.{◌≡◌, ◌%◌, pos, negsuc, [], ◌∷◌, ◌++◌, refl}
use Rattle.std.specs.Prelude.{codes}
use Rattle.gm_base.specs.Hash.{fnv1a_of}
use Rattle.gm_calendar.specs.declared.period.Period.TheVariants.{Week}
use Rattle.gm_keys.specs.Cell.{time_cell, z2_code, xz2_code}
use Rattle.gm_keys.specs.Key.{code_front}

-- `f1` at longitude 0 and latitude 0, in type 0 with 31 bits and 4 shards
f1_in_z2 : code_front (0 ∷ 0 ∷ 1 ∷ []) (fnv1a_of (codes "f1") % 4)
    (z2_code 31 (record { x = pos 0; y = pos 0 })) ++ codes "f1"
    ≡ 0 ∷ 0 ∷ 1 ∷ 0 ∷ 0x30 ∷ 0 ∷ 0 ∷ 0 ∷ 0 ∷ 0 ∷ 0 ∷ 0 ∷ 0x66 ∷ 0x31 ∷ []
unfolding code_front z2_code
f1_in_z2 = refl

-- the offset of 2020-01-01T00:00:00Z in its week, among 2^8 cells
new_year_in_its_week : time_cell Week 8 518_400 ≡ 219
new_year_in_its_week = refl

-- a line from -0.1 -0.1 to 0.1 0.1, and one from -180 0 to 180 0, at precision 4
short_line : xz2_code 4
    (record {
      low = record { x = negsuc 999_999; y = negsuc 999_999 };
      high = record { x = pos 1_000_000; y = pos 1_000_000 };
    }) ≡ 85
unfolding xz2_code
short_line = refl

long_line : xz2_code 4
    (record {
      low = record { x = negsuc 1_799_999_999; y = pos 0 };
      high = record { x = pos 1_800_000_000; y = pos 0 };
    }) ≡ 171
unfolding xz2_code
long_line = refl
