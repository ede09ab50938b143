use Rattle.std.proofs.Common.{◌++◌, ◌∙◌, ap, append_assoc}
use Rattle.std.specs.String.{string_bytes}
use Rattle.gm_types.specs.Spelling.{starred_text, is_place, comma_before}
use Rattle.gm_types.proofs.Printed.{one_more, attributes_text, attribute_printed}
use Rattle.gm_types.proofs.printer.append_attributes.Goals as goal

pub loop-attribute_place-preserved : goal.loop-attribute_place-preserved
loop-attribute_place-preserved c =
    let x = c.index-attributes-attribute_place.result in
    let i = c.loop-attribute_place.attribute_place in
    one_more (attributes_text c.args.geometry) c.args.attributes.now i x
    (string_bytes c.args.out.now) (string_bytes c.loop-attribute_place.out)
    (string_bytes c.append_attribute.new.out)
    (comma_before i ++ starred_text (is_place c.args.geometry i) x)
    c.loop-attribute_place-test.true c.index-attributes-attribute_place.is
    (attribute_printed c.args.geometry c.args.attributes.now i x c.loop-attribute_place-test.true)
    c.loop-attribute_place.invariant
    (c.in_ok-append_attribute.ensures
    ∙ ap (λ b. string_bytes c.append_comma.new.out ++ starred_text b x) c.is_place.ensures
    ∙ ap (λ t. t ++ starred_text (is_place c.args.geometry i) x) c.in_ok-append_comma.ensures
    ∙ append_assoc (string_bytes c.loop-attribute_place.out) (comma_before i)
    (starred_text (is_place c.args.geometry i) x))
