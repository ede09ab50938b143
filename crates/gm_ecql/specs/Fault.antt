-- What a text spells, and the order of its faults.
use Rattle.std.specs.Prelude.{◌≡◌, ◌⊎◌, ℕ, Bool, true, false, List, Some, None, Result, Ok, Err}
use Rattle.gm_types.specs.Specification.{Specification}
use Rattle.gm_feature.specs.declared.value.Value.{Value}
use Rattle.gm_filter.specs.declared.filter.Filter.{Filter}
use Rattle.gm_filter.specs.Tree.{Tree, tree}
use Rattle.gm_ecql.specs.declared.change.Change.{Change}
use Rattle.gm_ecql.specs.declared.fault.FilterFault.{FilterFault}
use Rattle.gm_ecql.specs.declared.fault.FilterFault.TheVariants as fault
use Rattle.gm_ecql.specs.Change.{JudgedChange, SpellsChangeJudged}
use Rattle.gm_ecql.specs.Grammar.{SpellsJudged}
use Rattle.gm_ecql.specs.Judging.{NameFaults, Judged, faultless}
use Rattle.gm_ecql.specs.Limits.{are_within, are_numbers_apart}
use Rattle.gm_ecql.specs.Token.{Seen, SpellsTokens, unspaced}

-- the tokens are in the grammar, and stand for this
pub record IsFilterOf (s : Specification) (ts : List (Bool × Seen)) (j : Judged) : Type 0 where
  pub apart : are_numbers_apart ts ≡ true
  pub spelled : SpellsJudged s (unspaced ts) j

pub record IsChangeOf (s : Specification) (ts : List (Bool × Seen))
    (c : JudgedChange) : Type 0 where
  pub apart : are_numbers_apart ts ≡ true
  pub spelled : SpellsChangeJudged s (unspaced ts) c

-- The text spells the filter of this tree, for a type.
pub record SpellsFilter (s : Specification) (text : List ℕ) (t : Tree) : Type 0 where
  pub tokens : List (Bool × Seen)
  pub judged : Judged
  pub lexed : SpellsTokens text tokens
  pub parsed : IsFilterOf s tokens judged
  pub sound : judged.faults ≡ faultless
  pub means : t ≡ judged.meaning

-- The text spells the change to this attribute, to this value, by the filter of this tree.
pub record SpellsChange (s : Specification) (text : List ℕ) (attribute : ℕ) (value : Value)
    (t : Tree) : Type 0 where
  pub tokens : List (Bool × Seen)
  pub judged : JudgedChange
  pub lexed : SpellsTokens text tokens
  pub parsed : IsChangeOf s tokens judged
  pub sound : judged.faults ≡ faultless
  pub place_means : attribute ≡ judged.place
  pub value_means : value ≡ judged.holds
  pub filter_means : t ≡ judged.meaning

-- Where tokens keep the limits: nothing in the grammar, or what it stands for, of which the first
-- faults decide.
abbrev pub IsOutOfGrammar : {J : Type 0} → (List (Bool × Seen) → J → Type 0)
    → List (Bool × Seen) → Type 0
IsOutOfGrammar {J} IsOf ts = (j : J) → IsOf ts j → ⊥

-- the text is no list of tokens, or one that keeps the limits and is not in the grammar
abbrev pub IsSyntaxFault : {J : Type 0} → (List (Bool × Seen) → J → Type 0) → List ℕ → Type 0
IsSyntaxFault IsOf text =
    ((ts : List (Bool × Seen)) → SpellsTokens text ts → ⊥)
    ⊎ ((ts : List (Bool × Seen)) × SpellsTokens text ts × (are_within (unspaced ts) ≡ true)
    × IsOutOfGrammar IsOf ts)

-- the text is a list of tokens that breaks a limit
abbrev pub IsLimitFault : List ℕ → Type 0
IsLimitFault text =
    (ts : List (Bool × Seen)) × SpellsTokens text ts × (are_within (unspaced ts) ≡ false)

-- the text is in the grammar and keeps the limits, and stands for this
abbrev pub StandsFor : {J : Type 0} → (List (Bool × Seen) → J → Type 0) → List ℕ → J → Type 0
StandsFor IsOf text j =
    (ts : List (Bool × Seen)) × SpellsTokens text ts × (are_within (unspaced ts) ≡ true) × IsOf ts j

-- a name is no attribute; this is the first
abbrev pub HasUnknown : NameFaults → List ℕ → Type 0
HasUnknown f name = f.unknown ≡ Some name

-- each name is an attribute, and a test breaks a rule; this is the attribute of the first
abbrev pub HasBad : NameFaults → List ℕ → Type 0
HasBad f name = (f.unknown ≡ None) × (f.bad ≡ Some name)

-- which fault a text has, where the faults of what it stands for are seen by `faults`
abbrev pub IsFault :
    {J : Type 0} → (List (Bool × Seen) → J → Type 0) → (J → NameFaults) → List ℕ
    → FilterFault → Type 0
IsFault IsOf faults text fault.Syntax = IsSyntaxFault IsOf text
IsFault IsOf faults text fault.Limit = IsLimitFault text
IsFault {J} IsOf faults text (fault.Unknown name) =
    (j : J) × StandsFor IsOf text j × HasUnknown (faults j) name
IsFault {J} IsOf faults text (fault.Literal name) =
    (j : J) × StandsFor IsOf text j × HasBad (faults j) name
IsFault IsOf faults text fault.NoMemory = Unit {0}

-- What reading a filter answers, a case for each answer.
abbrev pub IsAnswer : Specification → List ℕ → Result Filter FilterFault → Type 0
IsAnswer s text (Ok f) =
    (j : Judged) × StandsFor (IsFilterOf s) text j × (j.faults ≡ faultless) × (tree f ≡ j.meaning)
IsAnswer s text (Err e) = IsFault (IsFilterOf s) (λ j. j.faults) text e

-- The same of a change.
abbrev pub IsChangeAnswer : Specification → List ℕ → Result Change FilterFault → Type 0
IsChangeAnswer s text (Ok c) =
    (j : JudgedChange) × StandsFor (IsChangeOf s) text j × (j.faults ≡ faultless)
    × (c.attribute ≡ j.place) × (c.value ≡ j.holds) × (tree c.filter ≡ j.meaning)
IsChangeAnswer s text (Err e) = IsFault (IsChangeOf s) (λ j. j.faults) text e
