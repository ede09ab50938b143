use Rattle.std.proofs.Common.{◌++◌, ◌∙◌, ap, append_assoc}
use Rattle.std.specs.String.{string_bytes}
use Rattle.gm_types.specs.Spelling.{datum_text, needs_quotes, comma_before}
use Rattle.gm_types.proofs.Printed.{one_more, data_text, datum_printed}
use Rattle.gm_types.proofs.printer.append_data.Goals as goal

pub loop-datum_place-preserved : goal.loop-datum_place-preserved
loop-datum_place-preserved c =
    let x = c.index-list-datum_place.result in
    let i = c.loop-datum_place.datum_place in
    one_more data_text c.args.list.now i x
    (string_bytes c.args.out.now) (string_bytes c.loop-datum_place.out)
    (string_bytes c.append_datum.new.out)
    (comma_before i ++ datum_text (needs_quotes x.value) x)
    c.loop-datum_place-test.true c.index-list-datum_place.is
    (datum_printed c.args.list.now i x c.loop-datum_place-test.true)
    c.loop-datum_place.invariant
    (c.in_ok-append_datum.ensures
    ∙ ap (λ t. t ++ datum_text (needs_quotes x.value) x) c.in_ok-append_comma.ensures
    ∙ append_assoc (string_bytes c.loop-datum_place.out) (comma_before i)
    (datum_text (needs_quotes x.value) x))
