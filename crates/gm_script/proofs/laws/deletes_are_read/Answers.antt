use Rattle.std.proofs.Common.{refl, ap, ◌∙◌, Ok}
use Rattle.gm_base.specs.declared.code.Code.TheVariants.{E12}
use Rattle.gm_script.specs.Order as order
use Rattle.std.specs.Prelude.{codes, if◌then◌else◌}
use Rattle.gm_script.proofs.FormedLines.{unformed, formed, no_type, its_type}
use Rattle.gm_script.proofs.LaidLines.{read_laid}
use Rattle.gm_script.specs.Reading.{delete_of, refused}
use Rattle.gm_script.proofs.laws.deletes_are_read.Goals as goal

pub returns-clause-form : goal.returns-clause-form
unfolding delete_of
returns-clause-form c = λ types name text line h.
    read_laid types (codes "delete") name text line refl refl h.of
    ∙ unformed types name text _ h.lacks

pub returns-clause-no_type : goal.returns-clause-no_type
unfolding delete_of
returns-clause-no_type c = λ types name text line h none.
    read_laid types (codes "delete") name text line refl refl h.of
    ∙ formed types name text _ h.named h.some
    ∙ no_type types name _ none

pub returns-clause-fault : goal.returns-clause-fault
unfolding delete_of
returns-clause-fault c = λ types name id line n t h typed e.
    read_laid types (codes "delete") name id line refl refl h.of
    ∙ formed types name id _ h.named h.some
    ∙ its_type types name n t _ typed
    ∙ ap (λ b. if b then Ok (order.delete n id) else refused E12) e

pub returns-clause-read : goal.returns-clause-read
unfolding delete_of
returns-clause-read c = λ types name id line n t h typed e.
    read_laid types (codes "delete") name id line refl refl h.of
    ∙ formed types name id _ h.named h.some
    ∙ its_type types name n t _ typed
    ∙ ap (λ b. if b then Ok (order.delete n id) else refused E12) e
