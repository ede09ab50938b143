use Rattle.std.proofs.Common.{refl, ap, ◌∙◌}
use Rattle.std.specs.Prelude.{codes}
use Rattle.gm_script.proofs.FormedLines.{unformed, formed, no_type, its_type}
use Rattle.gm_script.proofs.LaidLines.{read_laid}
use Rattle.gm_script.specs.Reading.{put_of, put_read}
use Rattle.gm_script.proofs.laws.puts_are_read.Goals as goal

pub returns-clause-form : goal.returns-clause-form
unfolding put_of
returns-clause-form c = λ types name text line h.
    read_laid types (codes "put") name text line refl refl h.of ∙ unformed types name text _ h.lacks

pub returns-clause-no_type : goal.returns-clause-no_type
unfolding put_of
returns-clause-no_type c = λ types name text line h none.
    read_laid types (codes "put") name text line refl refl h.of
    ∙ formed types name text _ h.named h.some
    ∙ no_type types name _ none

pub returns-clause-fault : goal.returns-clause-fault
unfolding put_of
returns-clause-fault c = λ types name row line n t why h typed e.
    read_laid types (codes "put") name row line refl refl h.of
    ∙ formed types name row _ h.named h.some
    ∙ its_type types name n t _ typed ∙ ap (put_read n) e

pub returns-clause-read : goal.returns-clause-read
unfolding put_of
returns-clause-read c = λ types name row line n t feature h typed e.
    read_laid types (codes "put") name row line refl refl h.of
    ∙ formed types name row _ h.named h.some
    ∙ its_type types name n t _ typed ∙ ap (put_read n) e
