use Rattle.std.proofs.Common.{ℕ, ◌*◌, length, drop, ap, ◌∙◌, arith}
use Rattle.gm_feature.proofs.Leaps.{points_counted}
use Rattle.gm_feature.proofs.skips.skip_points.Goals as goal

pub returns : goal.returns
returns c = λ x e.
    let list = points_counted c.args.bytes.now x e in
    let at = c.count_at-count.ensures.count list.count list.read in
    c.behind.ensures (omega (arith, at.0, ap length at.1, list.long))
    ∙ ap (λ (n : ℕ). drop (n * 8) c.count_at-count.result.1.now) at.0
    ∙ ap (drop (list.count.0 * 8)) at.1 ∙ list.ends
