use Rattle.std.proofs.Common.{◌≡◌, ◌+◌, ◌-◌, ◌^◌, ap, ◌∙◌, arith}
use Rattle.gm_geom.specs.Number.{nearest}
use Rattle.gm_geom.proofs.Numbers.{nearest_step}
use Rattle.gm_geom.proofs.number.lowered.Goals as goal

pub places-preserved : goal.places-preserved
places-preserved c =
    let e : c.places.places - 1 + 1 ≡ c.places.places = omega arith in record {
      some = omega arith;
      small = omega arith;
      value = nearest_step c.places.number (c.places.places - 1) (omega arith)
          ∙ ap (λ k. nearest c.places.number (10 ^ k)) e ∙ c.places.invariant.value;
    }
