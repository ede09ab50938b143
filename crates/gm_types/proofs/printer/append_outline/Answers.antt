use Rattle.std.proofs.Common.{◌++◌, List, ◌∙◌, ap, map}
use Rattle.std.specs.String.{string_bytes}
use Rattle.gm_types.specs.Outline.{outlined}
use Rattle.gm_types.specs.declared.attribute.Attribute.{Attribute}
use Rattle.gm_types.specs.declared.datum.Datum.{Datum}
use Rattle.gm_types.specs.Spelling.{data_part, written_datum, canonical_datum}
use Rattle.gm_types.proofs.Printed.{all_printed, attributes_text}
use Rattle.gm_types.proofs.printer.append_outline.Goals as goal

pub returns : goal.returns
returns c = all_printed (outlined c.args.outline.now) (string_bytes c.args.out.now)
    (string_bytes c.append_attributes.new.out)
    (string_bytes c.append_data_part.new.out)
    (c.in_ok-append_attributes.ensures
    ∙ ap (λ (l : List Attribute). string_bytes c.args.out.now
    ++ attributes_text c.args.outline.now.geometry l) c.as_slice.ensures)
    (c.in_ok-append_data_part.ensures
    ∙ ap (λ (l : List Datum). string_bytes c.append_attributes.new.out
    ++ data_part (map written_datum (map canonical_datum l))) c.as_slice-2.ensures)
