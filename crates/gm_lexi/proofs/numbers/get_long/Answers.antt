use Rattle.std.proofs.Common.{subst, sym, ◌<◌, ap, arith, refl, slice_index, Some}
use Rattle.std.proofs.lemmas.Int.{to_z-of_z}
use mir.Val.{SFits, of_z, to_z}
use mir.Syntax.{w64}
use Rattle.gm_lexi.proofs.Flips.{long_read, long_only, long_is_long}
use Rattle.gm_lexi.proofs.numbers.get_long.Goals as goal

pub returns-then-from-lt8-clause-only : goal.returns-then-from-lt8-clause-only
returns-then-from-lt8-clause-only c =
    λ value rest fits same. absurd (omega (arith, long_is_long c.args.from.now value rest same))

pub returns-clause-found : goal.returns-clause-found
returns-clause-found c =
    let fits : SFits w64 (to_z w64 (of_z w64 c.cast_signed.result)) =
    subst (SFits w64)
    (sym (to_z-of_z w64 c.cast_signed.result (record { sfits = c.cast_signed.type_inv })))
    (record { sfits = c.cast_signed.type_inv }) in (
      fits,
      refl,
      long_read c.read_u64-value.result c.cast_signed.result c.args.from.now
          (omega arith) c.if-from-lt8.false
          (λ i. let fits : slice_index c.args.from.now i < 256 =
          omega (arith, c.type_inv.from i) in fits) c.read_u64-value.ensures
          c.cast_signed.ensures,
    )

pub returns-clause-only : goal.returns-clause-only
returns-clause-only c =
    λ value rest fits same. ap (λ v. Some (v, 8))
    (long_only c.read_u64-value.result c.cast_signed.result c.args.from.now value rest
    c.read_u64-value.ensures c.cast_signed.ensures fits same)
