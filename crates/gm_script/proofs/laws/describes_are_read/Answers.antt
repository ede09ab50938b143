use Rattle.std.proofs.Common.{◌≡◌, ◌<◌, ℕ, List, [], ◌∷◌, refl, ap, ◌∙◌, inl, inr, false, not, ◌||◌}
use Rattle.std.proofs.Common.{length, arith, Ok}
use Rattle.std.specs.Prelude.{codes, if◌then◌else◌, ◌⊎◌}
use Rattle.gm_base.proofs.Booleans.{or_true}
use Rattle.gm_base.specs.declared.code.Code.TheVariants.{E04}
use Rattle.gm_types.specs.Specification.{Specification}
use Rattle.gm_types.specs.Words.{is_name}
use Rattle.gm_script.proofs.FormedLines.{no_type, its_type}
use Rattle.gm_script.proofs.LaidLines.{read_laid}
use Rattle.gm_script.specs.Reading.{describe_of, on_type, type_named, refused, Given}
use Rattle.gm_script.specs.Order as order
use Rattle.gm_script.specs.Words.{is_nothing}
use Rattle.gm_script.proofs.laws.describes_are_read.Goals as goal

abbrev described : ℕ → Specification → Given
described n t = Ok (order.describe n)

lacks : (types : List Specification) (name more : List ℕ)
    → ((is_name name ≡ false) ⊎ (0 < length more))
    → describe_of types name more ≡ refused E04
unfolding describe_of
lacks types name more (inl e) =
    ap (λ b. if not b || not (is_nothing more) then refused E04
    else on_type described (type_named types name)) e
lacks types name [] (inr h) = absurd (omega (arith, h))
lacks types name (b ∷ bs) (inr h) =
    ap (λ b. if b then refused E04 else on_type described (type_named types name))
    (or_true (not (is_name name)))

pub returns-clause-form : goal.returns-clause-form
returns-clause-form c = λ types name more line h why.
    read_laid types (codes "describe") name more line refl refl h ∙ lacks types name more why

pub returns-clause-no_type : goal.returns-clause-no_type
unfolding describe_of
returns-clause-no_type c = λ types name line h named none.
    read_laid types (codes "describe") name [] line refl refl h
    ∙ ap (λ b. if not b || false then refused E04 else on_type described (type_named types name))
    named ∙ no_type types name described none

pub returns-clause-read : goal.returns-clause-read
unfolding describe_of
returns-clause-read c = λ types name line n t h named typed.
    read_laid types (codes "describe") name [] line refl refl h
    ∙ ap (λ b. if not b || false then refused E04 else on_type described (type_named types name))
    named ∙ its_type types name n t described typed
