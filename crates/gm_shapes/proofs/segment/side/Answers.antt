use Rattle.std.proofs.Common.{arith}
use Rattle.std.proofs.lemmas.Int.{ints, to_z-of_z}
use Rattle.gm_shapes.proofs.segment.side.Goals as goal

pub overflow_sub-result : goal.overflow_sub-result
overflow_sub-result c = omega (arith, ints, c.product.ensures.small, c.product-2.ensures.small)

pub returns : goal.returns
returns c = grind (arith, to_z-of_z)
