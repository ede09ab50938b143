use Rattle.std.proofs.Common.{refl, ap, ◌∙◌}
use Rattle.std.specs.Prelude.{codes}
use Rattle.gm_script.proofs.FormedLines.{unformed, formed, no_type, its_type}
use Rattle.gm_script.proofs.LaidLines.{read_laid}
use Rattle.gm_script.specs.Reading.{remove_of, remove_read}
use Rattle.gm_script.proofs.laws.removes_are_read.Goals as goal

pub returns-clause-form : goal.returns-clause-form
unfolding remove_of
returns-clause-form c = λ types name text line h.
    read_laid types (codes "remove") name text line refl refl h.of
    ∙ unformed types name text _ h.lacks

pub returns-clause-no_type : goal.returns-clause-no_type
unfolding remove_of
returns-clause-no_type c = λ types name text line h none.
    read_laid types (codes "remove") name text line refl refl h.of
    ∙ formed types name text _ h.named h.some
    ∙ no_type types name _ none

pub returns-clause-fault : goal.returns-clause-fault
unfolding remove_of
returns-clause-fault c = λ types name text line n t why h typed e.
    read_laid types (codes "remove") name text line refl refl h.of
    ∙ formed types name text _ h.named h.some
    ∙ its_type types name n t _ typed ∙ ap (remove_read n) e

pub returns-clause-read : goal.returns-clause-read
unfolding remove_of
returns-clause-read c = λ types name text line n t wanted h typed e.
    read_laid types (codes "remove") name text line refl refl h.of
    ∙ formed types name text _ h.named h.some
    ∙ its_type types name n t _ typed ∙ ap (remove_read n) e
