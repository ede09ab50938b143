use Rattle.std.proofs.Common.{◌∙◌, List, ℕ, Option, Some, sym, ap, subst}
use Rattle.gm_rows.specs.Reader.{Answers, feature_of_record}
use Rattle.gm_rows.proofs.PlainRows.{plain_record}
use Rattle.gm_rows.proofs.Slices.{seen}
use Rattle.gm_rows.proofs.reader.read_plain.Goals as goal

pub returns-in-Ok : goal.returns-in-Ok
returns-in-Ok c =
    subst (λ (r : Option (List (List ℕ))). Answers (feature_of_record c.args.of.now r)
    c.read_feature.result)
    (ap (λ l. Some (seen l)) c.as_slice.ensures.value ∙ ap Some c.in-Ok.ensures
    ∙ sym (plain_record c.args.row.now c.requires))
    c.read_feature.ensures
