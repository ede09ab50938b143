use Rattle.std.proofs.Common.{refl, ◌∙◌, ap}
use Rattle.std.specs.Prelude.{codes}
use Rattle.std.specs.Str.{bytes_eq}
use Rattle.gm_ecql.proofs.Systems.{same_unquoted}
use Rattle.gm_ecql.proofs.judging.is_known_system.Goals as goal

pub returns-in-Some : goal.returns-in-Some
returns-in-Some c =
    let same = c.eq.ensures ∙ ap (λ z. bytes_eq z c.as_slice.result.now) c.as_bytes.ensures.value
    ∙ ap (λ z. bytes_eq c.in-Some.name.now z) c.as_slice.ensures
    ∙ same_unquoted c.in-Some.name.now (codes "EPSG:4326")
    (refl, (refl, (refl, (refl, (refl, (refl, (refl, (refl, (refl, tt))))))))) in
    rw c.in-Some.is same
