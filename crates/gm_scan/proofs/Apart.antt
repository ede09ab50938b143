-- Geometries that do not meet.
use Rattle.std.proofs.Common.{◌≡◌, Bool, true, false, sym}
use Rattle.std.proofs.lemmas.Bool.{both_ways, false_from_ne_true}

-- what holds only where a test passes does not hold where it fails
pub fails_with : (t u : Bool) → (u ≡ true → t ≡ true) → t ≡ false → false ≡ u
fails_with t u only fails = sym (false_from_ne_true u (λ h. both_ways t fails (only h)))
