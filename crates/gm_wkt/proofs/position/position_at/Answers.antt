use Rattle.std.proofs.Common.{ap, ◌∙◌, List, ℕ, ℤ, rules}
use Rattle.std.specs.Option.{option_and_then}
use Rattle.std.proofs.lemmas.Int.{to_z-of_z}
use Rattle.gm_wkt.specs.Reader.{second_at}
use Rattle.gm_wkt.proofs.position.position_at.Goals as goal
use mir.Syntax.{w32}
use mir.Val.{SFits}

pub returns : goal.returns
returns c =
    let fits : SFits w32 c.in_ok-x.x = search rules in
    c.second_at.ensures ∙ ap (λ z. second_at z c.in_ok-x.rest.now) (to_z-of_z w32 c.in_ok-x.x fits)
    ∙ ap (λ o. option_and_then (λ (n : ℤ × List ℕ). second_at n.0 n.1) o) c.in_ok-x.ensures
