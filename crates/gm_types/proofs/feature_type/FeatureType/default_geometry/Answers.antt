use Rattle.std.proofs.Common.{◌≡◌, ℕ, Some, arith}
use Rattle.gm_types.specs.FeatureType.{IsType, IsGeometryAt}
use Rattle.gm_types.specs.Kept.{kept}
use Rattle.gm_types.specs.Specification.{Specification, default_geometry_of}
use Rattle.gm_types.proofs.Together.{holds_together}
use Rattle.gm_types.proofs.feature_type.FeatureType.default_geometry.Goals as goal

known : (t : Specification) (place : ℕ) → IsType t → default_geometry_of t ≡ Some place
    → IsGeometryAt t place
known t place typed e = (holds_together t typed).geometry place e

pub overflow_cast-result : goal.overflow_cast-result
overflow_cast-result c =
    let typed = c.self.invariant.typed in
    let at = known (kept c.self.inside) c.in_ok-place.place typed c.in_ok-place.was in
    omega (arith, at.within, typed.few)

pub returns-clause-kind : goal.returns-clause-kind
returns-clause-kind c =
    rw (← c.self.view_is)
    (known (kept c.self.inside) c.in_ok-place.place c.self.invariant.typed c.in_ok-place.was)
