-- What reading answers, as functions of the text.
use Rattle.std.specs.Prelude.{◌≡◌, ℕ, zero, suc, Bool, true, if◌then◌else◌, List, [], ◌∷◌}
use Rattle.std.specs.Prelude.{length, take, Option, Some, None, option_map, Result, Ok, Err}
use Rattle.std.specs.List.{prefix_len}
use Rattle.gm_types.specs.declared.kind.Kind.{Kind}
use Rattle.gm_types.specs.Specification.{Specification, kind_at}
use Rattle.gm_feature.specs.declared.value.Value.{Value}
use Rattle.gm_feature.specs.Value.{value_fits}
use Rattle.gm_filter.specs.Tree.{Tree, tree}
use Rattle.gm_ecql.specs.declared.change.Change.{Change}
use Rattle.gm_ecql.specs.declared.fault.FilterFault.{FilterFault}
use Rattle.gm_ecql.specs.declared.fault.FilterFault.TheVariants as fault
use Rattle.gm_ecql.specs.Change.{JudgedChange, change_document}
use Rattle.gm_ecql.specs.Judging.{NameFaults}
use Rattle.gm_ecql.specs.Limits.{are_within, are_numbers_apart}
use Rattle.gm_ecql.specs.Parser.{document}
use Rattle.gm_ecql.specs.Scanner.{Found, token_at, skip_blanks}
use Rattle.gm_base.specs.Ascii.{is_blank}
use Rattle.gm_ecql.specs.Token.{Seen, SpellsTokens, is_some_list, unspaced}

abbrev pub has_blank_first : List ℕ → Bool
has_blank_first text = is_some_list (take (prefix_len is_blank text) text)

abbrev pub listed_with : Bool → (List ℕ → Option (List (Bool × Seen))) → Found
    → Option (List (Bool × Seen))
listed_with spaced later None = None
listed_with spaced later (Some found) = option_map (λ ts. (spaced, found.0) ∷ ts) (later found.1)

-- token after token, in at most so many turns; blanks before each are free
unfoldable pub tokens_within : ℕ → List ℕ → Option (List (Bool × Seen))
tokens_within turns [] = Some []
tokens_within zero (b ∷ bs) = None
tokens_within (suc turns) (b ∷ bs) =
    listed_with (has_blank_first (b ∷ bs)) (tokens_within turns) (token_at (skip_blanks (b ∷ bs)))

-- the tokens of a text, if it is a list of tokens and does not begin with a blank
unfoldable pub tokens_of : List ℕ → Option (List (Bool × Seen))
tokens_of text = if has_blank_first text then None else tokens_within (length text) text

-- limits come before two numbers with no blank between them
abbrev pub kept_tokens : Option (List (Bool × Seen)) → Result (List (Bool × Seen)) FilterFault
kept_tokens None = Err fault.Syntax
kept_tokens (Some ts) =
    if are_within (unspaced ts)
    then (if are_numbers_apart ts then Ok ts else Err fault.Syntax)
    else Err fault.Limit

abbrev pub if_sound : {A : Type 0} → (List Seen → Result A FilterFault)
    → Result (List (Bool × Seen)) FilterFault → Result A FilterFault
if_sound parsed (Ok ts) = parsed (unspaced ts)
if_sound parsed (Err e) = Err e

-- an unknown name comes before a literal
abbrev pub if_faultless : {A : Type 0} → Option (List ℕ) → Option (List ℕ) → A
    → Result A FilterFault
if_faultless (Some name) bad meant = Err (fault.Unknown name)
if_faultless None (Some name) meant = Err (fault.Literal name)
if_faultless None None meant = Ok meant

abbrev pub if_parsed : {J A : Type 0} → (J → NameFaults) → (J → A) → Option J → Result A FilterFault
if_parsed faults meaning None = Err fault.Syntax
if_parsed faults meaning (Some j) = if_faultless (faults j).unknown (faults j).bad (meaning j)

abbrev pub outcome_by : {J A : Type 0} → (List Seen → Option J) → (J → NameFaults) → (J → A)
    → List ℕ → Result A FilterFault
outcome_by parsed faults meaning text =
    if_sound (λ ts. if_parsed faults meaning (parsed ts)) (kept_tokens (tokens_of text))

-- what reading a filter answers, for a type and a text
unfoldable pub filter_outcome : Specification → List ℕ → Result Tree FilterFault
filter_outcome s text = outcome_by (document s) (λ j. j.faults) (λ j. j.meaning) text

-- a change: the attribute's number, its new value, and of which features
pub record Meant : Type 0 where
  pub place : ℕ
  pub holds : Value
  pub wanted : Tree

abbrev pub meant_by : JudgedChange → Meant
meant_by c = record { place = c.place; holds = c.holds; wanted = c.meaning }

-- what reading a change answers, for a type and a text
unfoldable pub change_outcome : Specification → List ℕ → Result Meant FilterFault
change_outcome s text = outcome_by (change_document s) (λ c. c.faults) meant_by text

-- what contracts see of a change
abbrev pub meant : Change → Meant
meant c = record { place = c.attribute; holds = c.value; wanted = tree c.filter }

-- what is seen of the answer is what is wanted, unless memory ran out
abbrev pub Answers : {A X : Type 0} → (X → A) → Result A FilterFault → Result X FilterFault → Type 0
Answers view wanted (Ok x) = wanted ≡ Ok (view x)
Answers view wanted (Err fault.Syntax) = wanted ≡ Err fault.Syntax
Answers view wanted (Err fault.Limit) = wanted ≡ Err fault.Limit
Answers view wanted (Err (fault.Unknown name)) = wanted ≡ Err (fault.Unknown name)
Answers view wanted (Err (fault.Literal name)) = wanted ≡ Err (fault.Literal name)
Answers view wanted (Err fault.NoMemory) = Unit {0}

-- each list of tokens that the text spells keeps the limits
abbrev pub KeepsLimits : List ℕ → Type 0
KeepsLimits text =
    (ts : List (Bool × Seen)) → SpellsTokens text ts → are_within (unspaced ts) ≡ true

-- an attribute of the type may have the value
pub record MayHold (s : Specification) (attribute : ℕ) (v : Value) : Type 0 where
  pub kind : Kind
  pub there : kind_at s attribute ≡ Some kind
  pub fits : value_fits kind v ≡ true
