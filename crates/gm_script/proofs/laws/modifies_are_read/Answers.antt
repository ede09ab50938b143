use Rattle.std.proofs.Common.{refl, ap, ◌∙◌, Ok}
use Rattle.gm_base.specs.declared.code.Code.TheVariants.{E11}
use Rattle.gm_script.specs.Order as order
use Rattle.std.specs.Prelude.{codes, if◌then◌else◌}
use Rattle.gm_script.proofs.FormedLines.{unformed, formed, no_type, its_type}
use Rattle.gm_script.proofs.LaidLines.{read_laid}
use Rattle.gm_script.specs.Reading.{modify_of, modify_read, refused}
use Rattle.gm_script.proofs.laws.modifies_are_read.Goals as goal

pub returns-clause-form : goal.returns-clause-form
unfolding modify_of
returns-clause-form c = λ types name text line h.
    read_laid types (codes "modify") name text line refl refl h.of
    ∙ unformed types name text _ h.lacks

pub returns-clause-no_type : goal.returns-clause-no_type
unfolding modify_of
returns-clause-no_type c = λ types name text line h none.
    read_laid types (codes "modify") name text line refl refl h.of
    ∙ formed types name text _ h.named h.some
    ∙ no_type types name _ none

pub returns-clause-fault : goal.returns-clause-fault
unfolding modify_of
returns-clause-fault c = λ types name text line n t why h typed e.
    read_laid types (codes "modify") name text line refl refl h.of
    ∙ formed types name text _ h.named h.some
    ∙ its_type types name n t _ typed ∙ ap (modify_read t n) e

pub returns-clause-dated : goal.returns-clause-dated
unfolding modify_of
returns-clause-dated c = λ types name text line n t m h typed e kept.
    read_laid types (codes "modify") name text line refl refl h.of
    ∙ formed types name text _ h.named h.some
    ∙ its_type types name n t _ typed ∙ ap (modify_read t n) e
    ∙ ap (λ b. if b then Ok (order.modify n m.place m.holds m.wanted) else refused E11) kept

pub returns-clause-read : goal.returns-clause-read
unfolding modify_of
returns-clause-read c = λ types name text line n t m h typed e kept.
    read_laid types (codes "modify") name text line refl refl h.of
    ∙ formed types name text _ h.named h.some
    ∙ its_type types name n t _ typed ∙ ap (modify_read t n) e
    ∙ ap (λ b. if b then Ok (order.modify n m.place m.holds m.wanted) else refused E11) kept
