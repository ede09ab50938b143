-- The definitions at worked rows.
use Rattle.std.proofs.Common.{◌≡◌, ◌^◌, [], ◌∷◌, refl}
use Rattle.gm_curve.specs.Curve.{z_code}
use Rattle.gm_curve.specs.Listing.{listing}
use Rattle.gm_curve.specs.Scale.{normal_of}
use Rattle.gm_curve.specs.Xz.{level_of, xz_code}

pub middle_of_the_world : z_code 2 31 (2 ^ 30 ∷ 2 ^ 30 ∷ []) ≡ 3458764513820540928
middle_of_the_world = refl

pub end_of_the_world : z_code 2 31 (2147483647 ∷ 2147483647 ∷ []) ≡ 4611686018427387903
end_of_the_world = refl

pub middle_of_the_span : normal_of 1800000000 3600000000 31 ≡ 2 ^ 30
middle_of_the_span = refl

pub listing_of_one : listing 2 1 ≡ [] ∷ (0 ∷ []) ∷ (1 ∷ []) ∷ (2 ∷ []) ∷ (3 ∷ []) ∷ []
listing_of_one = refl

pub level_over_a_border : level_of 4 (7 ∷ 7 ∷ []) (8 ∷ 8 ∷ []) ≡ 4
level_over_a_border = refl

pub code_over_a_border : xz_code 2 4 (7 ∷ 7 ∷ []) (8 ∷ 8 ∷ []) ≡ 85
code_over_a_border = refl

pub level_of_a_wider : level_of 4 (7 ∷ 7 ∷ []) (10 ∷ 10 ∷ []) ≡ 2
level_of_a_wider = refl

pub code_of_a_wider : xz_code 2 4 (7 ∷ 7 ∷ []) (10 ∷ 10 ∷ []) ≡ 65
code_of_a_wider = refl
