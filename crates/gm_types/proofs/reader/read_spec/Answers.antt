use Rattle.std.proofs.Common.{◌∙◌, ap}
use Rattle.gm_types.specs.Outline.{outlined}
use Rattle.gm_types.specs.Words.{is_name}
use Rattle.gm_types.proofs.Outlined.{named_as}
use Rattle.gm_types.proofs.Validity.{outline_valid}
use Rattle.gm_types.proofs.reader.read_spec.Goals as goal

pub checked-requires-clause-named : goal.checked-requires-clause-named
checked-requires-clause-named c =
    ap is_name (outline_valid c.args.name.now c.args.number c.args.text.now
    (outlined c.in-Ok.outline) c.in-Ok.ensures).name_is ∙ c.requires

pub checked-requires-clause-outline : goal.checked-requires-clause-outline
checked-requires-clause-outline c =
    (outline_valid c.args.name.now c.args.number c.args.text.now (outlined c.in-Ok.outline)
    c.in-Ok.ensures).outline

pub returns-in-Ok-clause-named : goal.returns-in-Ok-clause-named
returns-in-Ok-clause-named c =
    let outline = outline_valid c.args.name.now c.args.number c.args.text.now
    (outlined c.in-Ok.outline) c.in-Ok.ensures in
    named_as c.args.name.now c.args.number (outlined c.in-Ok.outline) c.checked.result
    c.checked.ensures.same outline.name_is outline.number_is
