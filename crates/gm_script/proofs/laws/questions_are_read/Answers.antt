use Rattle.std.proofs.Common.{ap, ◌∙◌}
use Rattle.gm_script.proofs.AskLines.{read_unformed, read_formed, on_parts}
use Rattle.gm_script.proofs.FormedLines.{no_type, its_type}
use Rattle.gm_script.specs.Ask.{hinted}
use Rattle.gm_script.specs.Laid.{question}
use Rattle.gm_script.specs.Reading.{ask_read, ask_with, asks}
use Rattle.gm_script.proofs.laws.questions_are_read.Goals as goal

pub returns-clause-form : goal.returns-clause-form
returns-clause-form c =
    λ types q name text line hint digits h. read_unformed types q name hint digits text line h

pub returns-clause-no_type : goal.returns-clause-no_type
returns-clause-no_type c = λ types q name text line hint digits target h none.
    read_formed types q name hint digits target text line h
    ∙ ap (asks (question q)) (no_type types name (on_parts hint target text) none)

pub returns-clause-fault : goal.returns-clause-fault
returns-clause-fault c = λ types q name text line hint digits target n t why h typed e.
    read_formed types q name hint digits target text line h
    ∙ ap (asks (question q)) (its_type types name n t (on_parts hint target text) typed)
    ∙ ap (λ o. asks (question q) (ask_read n target (hinted t hint) o)) e

pub returns-clause-hint : goal.returns-clause-hint
returns-clause-hint c = λ types q name text line hint digits target n t wanted h typed e none.
    read_formed types q name hint digits target text line h
    ∙ ap (asks (question q)) (its_type types name n t (on_parts hint target text) typed)
    ∙ ap (λ o. asks (question q) (ask_read n target (hinted t hint) o)) e
    ∙ ap (λ i. asks (question q) (ask_with n target wanted i)) none

pub returns-clause-read : goal.returns-clause-read
returns-clause-read c = λ types q name text line hint digits target n t wanted kind h typed e some.
    read_formed types q name hint digits target text line h
    ∙ ap (asks (question q)) (its_type types name n t (on_parts hint target text) typed)
    ∙ ap (λ o. asks (question q) (ask_read n target (hinted t hint) o)) e
    ∙ ap (λ i. asks (question q) (ask_with n target wanted i)) some
