use Rattle.std.proofs.Common.{◌≡◌, ◌+◌, ◌-◌, ◌*◌, ◌^◌, ap, sym, ◌∙◌, subst, ℕ, arith}
use Rattle.gm_geom.specs.Number.{nearest, IsCapped}
use Rattle.gm_geom.proofs.Numbers.{nearest_up, nearest_down}
use Rattle.gm_geom.proofs.number.scaled.Goals as goal

pub returns-then-down-up : goal.returns-then-down-up
returns-then-down-up c =
    let e : c.args.down + (c.args.up - c.args.down) ≡ c.args.up = omega arith in
    let P : ℕ → Type 0 = λ n. IsCapped c.raised.result n in
    let whole : c.args.number * 10 ^ (c.args.up - c.args.down)
    ≡ nearest (c.args.number * 10 ^ c.args.up) (10 ^ c.args.down) =
    sym (nearest_up c.args.number c.args.down (c.args.up - c.args.down))
    ∙ ap (λ k. nearest (c.args.number * 10 ^ k) (10 ^ c.args.down)) e in
    subst P whole c.raised.ensures

pub returns-else-down-up : goal.returns-else-down-up
returns-else-down-up c =
    let e : c.args.up + (c.args.down - c.args.up) ≡ c.args.down = omega arith in
    let P : ℕ → Type 0 = λ n. IsCapped c.capped.result n in
    let part : c.lowered.result ≡ nearest (c.args.number * 10 ^ c.args.up) (10 ^ c.args.down) =
    c.lowered.ensures ∙ sym (nearest_down c.args.number c.args.up (c.args.down - c.args.up))
    ∙ ap (λ k. nearest (c.args.number * 10 ^ c.args.up) (10 ^ k)) e in
    subst P part c.capped.ensures
