use Rattle.std.proofs.Common.{ℕ, ap, ◌∙◌}
use Rattle.gm_feature.specs.Reader.{members_from, lines_from}
use Rattle.gm_feature.proofs.Leaps.{areas_counted}
use Rattle.gm_feature.proofs.skips.skip_areas.Goals as goal

pub returns : goal.returns
returns c = λ x e.
    let list = areas_counted c.args.bytes.now x e in
    let at = c.count_at-count.ensures.count list.0 list.1 in
    c.skip_many_areas.ensures x
    (ap (λ (n : ℕ). members_from lines_from n c.count_at-count.result.1.now) at.0
    ∙ ap (members_from lines_from list.0.0) at.1 ∙ list.2)
