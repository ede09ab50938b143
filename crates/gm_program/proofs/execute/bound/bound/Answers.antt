use Rattle.std.proofs.Common.{◌≡◌, ◌∙◌, IfOk, Some, is_some, sym, ap, subst}
use Rattle.std.specs.Prelude.{if◌then◌else◌}
use Rattle.std.specs.Option.{option_copied}
use Rattle.gm_base.specs.Counter.{capped_sum}
use Rattle.gm_table.specs.Sorted.{at_key}
use Rattle.gm_keys.specs.Key.{id_key}
use Rattle.gm_engine_rows.specs.Rows.{rows_of}
use Rattle.gm_program.specs.Step.{row_of_one}
use Rattle.gm_program.proofs.Bound.{row_of_id, no_row_of_id, if_ok}
use Rattle.gm_program.proofs.execute.bound.bound.Goals as goal

pub returns-in-Some-clause-held : goal.returns-in-Some-clause-held
returns-in-Some-clause-held g c = λ s types holds typed.
    let t = c.args.of.now in
    let id = c.args.id.now in
    let got : at_key (id_key t id) (rows_of s) ≡ Some c.in-Some.bytes.now =
    (λ i. at_key (sym c.in_ok-key.ensures i) (sym holds.same_rows i)) ∙ sym c.get.ensures.found
    ∙ ap option_copied c.in-Some.is in
    let row = row_of_id c.keys_are_laid_out.ensures c.prefixes_tell_indexes_apart.ensures s t id
    c.in-Some.bytes.now holds.state typed
    (c.rows_are_of_features.ensures.found s (id_key t id) c.in-Some.bytes.now got) in
    subst (λ o. IfOk c.from_bytes.result (λ held. held ≡ o)) (sym row.held)
    (c.from_bytes.ensures.only row.feature row.fits row.same)

pub returns-in-Some-clause-tally : goal.returns-in-Some-clause-tally
returns-in-Some-clause-tally g c = λ s types holds typed.
    let t = c.args.of.now in
    let id = c.args.id.now in
    let before = g.B.Tally.Counter.number c.args.tally.now in
    let got : at_key (id_key t id) (rows_of s) ≡ Some c.in-Some.bytes.now =
    (λ i. at_key (sym c.in_ok-key.ensures i) (sym holds.same_rows i)) ∙ sym c.get.ensures.found
    ∙ ap option_copied c.in-Some.is in
    let row = row_of_id c.keys_are_laid_out.ensures c.prefixes_tell_indexes_apart.ensures s t id
    c.in-Some.bytes.now holds.state typed
    (c.rows_are_of_features.ensures.found s (id_key t id) c.in-Some.bytes.now got) in
    let one = c.get.ensures.tally
    ∙ ap (λ o. capped_sum before (if is_some o then 1 else 0)) c.in-Some.is in
    if_ok c.from_bytes.result
    (λ held same. one ∙ ap (λ o. capped_sum before (row_of_one o)) (sym same))
    (c.from_bytes.ensures.only row.feature row.fits row.same)

pub returns-clause-held : goal.returns-clause-held
returns-clause-held g c = λ s types holds typed.
    let t = c.args.of.now in
    let id = c.args.id.now in
    sym (no_row_of_id c.rows_are_of_features.ensures.all s t id holds.state typed
    ((λ i. at_key (sym c.in_ok-key.ensures i) (sym holds.same_rows i)) ∙ sym c.get.ensures.found
    ∙ ap option_copied c.in-None.is))
