use Rattle.std.proofs.Common.{rules, ℕ, List, not, filter, ap, ◌∙◌}
use Rattle.std.proofs.lemmas.Fn.{filter_same}
use Rattle.gm_table.specs.Batch.{has_key}
use Rattle.gm_engine_rows.proofs.change.without.Goals as goal

pub returns : goal.returns
returns c =
    let test = λ (key : List ℕ). not (has_key key c.args.others.now) in
    c.from_vec.ensures ∙ filter_same _ _ _ (λ x b f' k. search rules) _ _ c.retain.ensures.filtered
    ∙ ap (filter test) c.into_vec-kept.ensures
