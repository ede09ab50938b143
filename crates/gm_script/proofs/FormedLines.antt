-- What commands on a type make of a line that has its form, and of one that has not.
use Rattle.std.proofs.Common.{◌≡◌, ℕ, true, false, not, ◌||◌, List, [], ◌∙◌, ap, inl}
use Rattle.std.proofs.Common.{inr, None, Result, option_map, option_and_then}
use Rattle.std.specs.Prelude.{◌⊎◌, if◌then◌else◌, slice_get}
use Rattle.gm_base.proofs.Booleans.{or_true}
use Rattle.gm_base.specs.declared.code.Code.TheVariants.{E04, E06}
use Rattle.gm_types.specs.Specification.{Specification}
use Rattle.gm_types.specs.TypeList.{number_of_name}
use Rattle.gm_types.specs.Words.{is_name}
use Rattle.gm_script.specs.declared.fault.LineFault.{LineFault}
use Rattle.gm_script.specs.Laid.{IsTypeNamed}
use Rattle.gm_script.specs.Reading.{refused, type_named, on_type, with_rest}
use Rattle.gm_script.specs.Words.{is_nothing}

-- no name, or nothing behind it
pub lacking : {R : Type 0} (name rest : List ℕ) (other whole : R)
    → ((is_name name ≡ false) ⊎ (rest ≡ []))
    → (if not (is_name name) || is_nothing rest then other else whole) ≡ other
lacking name rest other whole (inl e) =
    ap (λ b. if not b || is_nothing rest then other else whole) e
lacking name rest other whole (inr e) =
    ap (λ r. if not (is_name name) || is_nothing r then other else whole) e
    ∙ ap (λ b. if b then other else whole) (or_true (not (is_name name)))

pub having : {R : Type 0} (name rest : List ℕ) (other whole : R) → is_name name ≡ true
    → is_nothing rest ≡ false
    → (if not (is_name name) || is_nothing rest then other else whole) ≡ whole
having name rest other whole named some =
    ap (λ b. if not b || is_nothing rest then other else whole) named
    ∙ ap (λ b. if b then other else whole) some

-- what is done on a type with that name
abbrev pub OnType : Type 0 → Type 0
OnType A = ℕ → Specification → Result A LineFault

pub unformed : {A : Type 0} (types : List Specification) (name rest : List ℕ) (on : OnType A)
    → ((is_name name ≡ false) ⊎ (rest ≡ [])) → with_rest types name rest on ≡ refused E04
unformed types name rest on lacks =
    lacking name rest (refused E04) (on_type on (type_named types name)) lacks

pub formed : {A : Type 0} (types : List Specification) (name rest : List ℕ) (on : OnType A)
    → is_name name ≡ true → is_nothing rest ≡ false
    → with_rest types name rest on ≡ on_type on (type_named types name)
formed types name rest on named some =
    having name rest (refused E04) (on_type on (type_named types name)) named some

pub no_type : {A : Type 0} (types : List Specification) (name : List ℕ) (on : OnType A)
    → number_of_name types name ≡ None → on_type on (type_named types name) ≡ refused E06
no_type types name on none =
    ap (λ o. on_type on (option_and_then (λ n. option_map (λ t. (n, t)) (slice_get types n)) o))
    none

pub its_type : {A : Type 0} (types : List Specification) (name : List ℕ) (n : ℕ) (t : Specification)
    (on : OnType A)
    → IsTypeNamed types name n t → on_type on (type_named types name) ≡ on n t
its_type types name n t on h =
    ap (λ o. on_type on (option_and_then (λ n. option_map (λ t. (n, t)) (slice_get types n)) o))
    h.named
    ∙ ap (λ o. on_type on (option_map (λ t. (n, t)) o)) h.there
