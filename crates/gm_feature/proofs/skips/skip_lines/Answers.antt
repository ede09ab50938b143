use Rattle.std.proofs.Common.{ℕ, ap, ◌∙◌}
use Rattle.gm_feature.specs.Reader.{members_from, points_from}
use Rattle.gm_feature.proofs.Leaps.{lines_counted}
use Rattle.gm_feature.proofs.skips.skip_lines.Goals as goal

pub returns : goal.returns
returns c = λ x e.
    let list = lines_counted c.args.bytes.now x e in
    let at = c.count_at-count.ensures.count list.0 list.1 in
    c.skip_many_lines.ensures x
    (ap (λ (n : ℕ). members_from points_from n c.count_at-count.result.1.now) at.0
    ∙ ap (members_from points_from list.0.0) at.1 ∙ list.2)
