use Rattle.std.proofs.Common.{◌≡◌, length, get_or, [], ap, ◌∙◌, arith}
use Rattle.std.proofs.lemmas.List.{length-replicate}
use Rattle.gm_prepared.proofs.Bands.{empty_each}
use Rattle.gm_prepared.proofs.placing.empty_bands.Goals as goal

pub returns : goal.returns
returns c =
    let done : c.bands.counter ≡ c.count_of-count.result = omega arith in
    let long : length c.bands.bands.items ≡ c.bands.counter =
    ap length c.bands.invariant ∙ length-replicate c.bands.counter [] in
    record {
      count = long ∙ done ∙ c.count_of-count.ensures;
      each = λ k below. ap (λ bands. get_or bands k []) c.bands.invariant
          ∙ empty_each c.bands.counter k c.args.area (omega (arith, below, long));
    }
