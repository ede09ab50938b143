use Rattle.std.proofs.Common.{◌≡◌, ◌≤◌, List, refl, ap, ◌∙◌, inl, inr, length, Ok}
use Rattle.std.specs.Prelude.{codes, if◌then◌else◌, ◌&&◌, ◌⊎◌, is_some, nat_lt}
use Rattle.std.proofs.lemmas.Bool.{lt-ltb, le-ltb}
use Rattle.gm_base.proofs.Booleans.{and_false}
use Rattle.gm_base.specs.declared.code.Code.TheVariants.{E05, E19}
use Rattle.gm_types.specs.Reader.{specification_of}
use Rattle.gm_types.specs.Specification.{Specification}
use Rattle.gm_script.proofs.FormedLines.{lacking, having}
use Rattle.gm_script.proofs.LaidLines.{read_laid}
use Rattle.gm_script.specs.Order as order
use Rattle.gm_script.specs.Reading.{create_of, create_from, create_type, refused}
use Rattle.gm_script.proofs.laws.creates_are_read.Goals as goal

no_room : (types : List Specification) (t : Specification)
    → ((100 ≤ length types) ⊎ (65 ≤ length t.attributes))
    → create_type types t ≡ refused E19
no_room types t (inl h) =
    ap (λ b. if b && nat_lt (length t.attributes) 65 then Ok (order.create t) else refused E19)
    (le-ltb (length types) 100 h)
no_room types t (inr h) =
    ap (λ b. if nat_lt (length types) 100 && b then Ok (order.create t) else refused E19)
    (le-ltb (length t.attributes) 65 h)
    ∙ ap (λ b. if b then Ok (order.create t) else refused E19)
    (and_false (nat_lt (length types) 100))

pub returns-clause-form : goal.returns-clause-form
unfolding create_of
returns-clause-form c = λ types name text line h.
    read_laid types (codes "create") name text line refl refl h.of ∙ lacking name text _ _ h.lacks

pub returns-clause-exists : goal.returns-clause-exists
unfolding create_of
returns-clause-exists c = λ types name text line n h e.
    read_laid types (codes "create") name text line refl refl h.of
    ∙ having name text _ _ h.named h.some
    ∙ ap (λ o. if is_some o then refused E05
    else create_from types (specification_of name (length types) text)) e

pub returns-clause-fault : goal.returns-clause-fault
unfolding create_of
returns-clause-fault c = λ types name text line h none e.
    read_laid types (codes "create") name text line refl refl h.of
    ∙ having name text _ _ h.named h.some
    ∙ ap (λ o. if is_some o then refused E05
    else create_from types (specification_of name (length types) text)) none
    ∙ ap (create_from types) e

pub returns-clause-limit : goal.returns-clause-limit
unfolding create_of
returns-clause-limit c = λ types name text line t h none e full.
    read_laid types (codes "create") name text line refl refl h.of
    ∙ having name text _ _ h.named h.some
    ∙ ap (λ o. if is_some o then refused E05
    else create_from types (specification_of name (length types) text)) none
    ∙ ap (create_from types) e ∙ no_room types t full

pub returns-clause-read : goal.returns-clause-read
unfolding create_of
returns-clause-read c = λ types name text line t h none e room few.
    read_laid types (codes "create") name text line refl refl h.of
    ∙ having name text _ _ h.named h.some
    ∙ ap (λ o. if is_some o then refused E05
    else create_from types (specification_of name (length types) text)) none
    ∙ ap (create_from types) e
    ∙ ap (λ b. if b && nat_lt (length t.attributes) 65 then Ok (order.create t) else refused E19)
    (lt-ltb (length types) 100 room)
    ∙ ap (λ b. if b then Ok (order.create t) else refused E19) (lt-ltb (length t.attributes) 65 few)
