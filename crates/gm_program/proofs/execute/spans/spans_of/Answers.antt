use Rattle.std.proofs.Common.{ap, arith, ◌∙◌}
use Rattle.gm_filter.specs.Tree.{tree}
use Rattle.gm_plan.specs.Spans.{spans_of}
use Rattle.gm_strategy.specs.Choice.{chosen_of}
use Rattle.gm_program.proofs.Bound.{if_ok}
use Rattle.gm_program.proofs.Inside.{of_index_from}
use Rattle.gm_program.proofs.Spans.{are_read}
use Rattle.gm_program.proofs.execute.spans.spans_of.Goals as goal

pub returns : goal.returns
returns c = λ s rows own.
    let t = c.args.of.now in
    let part = c.args.part.now in
    let of_index =
    of_index_from c.keys_inside_are_of_the_index.ensures t
    (omega (arith, c.shards-shards.ensures.value, c.shards-shards.ensures.few)) in
    if_ok c.byte_ranges.result
    (λ spans is. are_read c.rows_of_a_map.ensures.at c.rows_are_of_features.ensures.found
    c.rows_are_of_features.ensures.all
    (λ u kind w target f typed. c.keys_are_inside.ensures kind u w target f
    (c.types_hold_together.ensures.law u typed)) c.bytes_tell_features_apart.ensures
    c.rows_hold_features.ensures.some s t of_index
    (chosen_of part) c.args.target rows spans own c.requires.served c.requires.least
    (c.spans_are_apart.ensures t part.kind (tree part.filter) c.args.target c.requires.least)
    (is ∙ ap (spans_of t part.kind) c.in_ok-of_ranges.ensures)) c.byte_ranges.ensures
