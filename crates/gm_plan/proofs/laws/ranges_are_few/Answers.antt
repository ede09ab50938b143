use Rattle.gm_trees.specs.Xz.{xz_shape}
use Rattle.gm_trees.specs.Z.{z_shape}
use Rattle.gm_types.specs.Specification.{period_of, precision_of, z2_bits_of, z3_bits_of}
use Rattle.gm_bounds.specs.Space.{boxes_of}
use Rattle.gm_bounds.specs.Identifiers.{ids_of}
use Rattle.gm_bounds.specs.Time.{intervals_of}
use Rattle.gm_plan.specs.KeyRanges.{list_of}
use Rattle.gm_plan.specs.Windows.{windows_of}
use Rattle.gm_plan.proofs.FewRanges.{plane_few, space_few, id_count}
use Rattle.gm_plan.proofs.laws.ranges_are_few.Goals as goal

pub returns-clause-z2 : goal.returns-clause-z2
returns-clause-z2 c = λ s t target some.
    plane_few (z_shape 2 (z2_bits_of s)) (c.z2_curve.ensures s).curve.few
    (windows_of (z2_bits_of s) (list_of (boxes_of s t))) target some

pub returns-clause-xz2 : goal.returns-clause-xz2
returns-clause-xz2 c = λ s t target some.
    plane_few (xz_shape 2 (precision_of s)) (c.xz2_curve.ensures s).curve.few
    (windows_of (precision_of s) (list_of (boxes_of s t))) target some

pub returns-clause-z3 : goal.returns-clause-z3
returns-clause-z3 c = λ s t target some.
    space_few (z_shape 3 (z3_bits_of s)) (c.z3_curve.ensures s).curve.few (period_of s)
    (z3_bits_of s) (list_of (boxes_of s t)) (list_of (intervals_of s t)) target some

pub returns-clause-xz3 : goal.returns-clause-xz3
returns-clause-xz3 c = λ s t target some.
    space_few (xz_shape 3 (precision_of s)) (c.xz3_curve.ensures s).curve.few (period_of s)
    (precision_of s) (list_of (boxes_of s t)) (list_of (intervals_of s t)) target some

pub returns-clause-id : goal.returns-clause-id
returns-clause-id c = λ s t target. id_count (ids_of t)
