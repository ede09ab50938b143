-- What every order that is read from a line has, so that it can be done.
use Rattle.std.specs.Prelude.{◌≡◌, ℕ, ◌<◌, true, List, length, slice_get, Option, Some, None}
use Rattle.std.specs.Prelude.{Result, IfOk}
use Rattle.gm_base.specs.Identifier.{is_identifier}
use Rattle.gm_types.specs.declared.index.IndexKind.{IndexKind}
use Rattle.gm_types.specs.FeatureType.{IsType}
use Rattle.gm_types.specs.Index.{has_index}
use Rattle.gm_types.specs.Specification.{Specification}
use Rattle.gm_types.specs.TypeList.{number_of_name}
use Rattle.gm_feature.specs.declared.feature.Feature.{Feature}
use Rattle.gm_feature.specs.declared.value.Value.{Value}
use Rattle.gm_feature.specs.Feature.{Fits}
use Rattle.gm_filter.specs.Suitability as filter
use Rattle.gm_filter.specs.Tree.{Tree}
use Rattle.gm_ecql.specs.Outcome.{MayHold}
use Rattle.gm_script.specs.Bins.{keeps_bins}
use Rattle.gm_script.specs.declared.command.Ask.{Ask}
use Rattle.gm_script.specs.declared.command.Command.{Command}
use Rattle.gm_script.specs.declared.fault.LineFault.{LineFault}
use Rattle.gm_script.specs.Order.{Asked, Order, asked_by, order_of}
use Rattle.gm_script.specs.Order as order

-- how many types there may be
abbrev pub most_types : ℕ
most_types = 100

-- a further type takes the next number among 100, and no other has its name
pub record IsNewType (types : List Specification) (t : Specification) : Type 0 where
  pub room : length types < most_types
  pub typed : IsType t
  pub numbered : t.number ≡ length types
  pub named : number_of_name types t.name ≡ None

-- a feature that fits the type with that number
pub record IsNewFeature (types : List Specification) (n : ℕ) (feature : Feature) : Type 0 where
  pub of : Specification
  pub there : slice_get types n ≡ Some of
  pub fits : Fits of feature

-- an identifier, and a type with that number
pub record IsDelete (types : List Specification) (n : ℕ) (id : List ℕ) : Type 0 where
  pub there : n < length types
  pub identifier : is_identifier id ≡ true

-- a filter that suits the type with that number
pub record IsWanted (types : List Specification) (n : ℕ) (wanted : Tree) : Type 0 where
  pub of : Specification
  pub there : slice_get types n ≡ Some of
  pub suits : filter.Suits of wanted

-- besides, a value that the attribute may take
pub record IsModify (types : List Specification) (n attribute : ℕ) (value : Value) (wanted : Tree)
    : Type 0 where
  pub of : Specification
  pub there : slice_get types n ≡ Some of
  pub holds : MayHold of attribute value
  pub dated : keeps_bins of attribute value ≡ true
  pub suits : filter.Suits of wanted

-- the index is enabled, if there is one
abbrev pub IsHint : Specification → Option IndexKind → Type 0
IsHint t None = Unit {0}
IsHint t (Some kind) = has_index t kind ≡ true

-- a question of the type with that number
pub record IsQuestion (types : List Specification) (a : Asked) : Type 0 where
  pub of : Specification
  pub there : slice_get types a.number ≡ Some of
  pub suits : filter.Suits of a.wanted
  pub hint : IsHint of a.hint

abbrev pub Suits : List Specification → Order → Type 0
Suits types order.nothing = Unit {0}
Suits types (order.create t) = IsNewType types t
Suits types (order.put n feature) = IsNewFeature types n feature
Suits types (order.delete n id) = IsDelete types n id
Suits types (order.remove n wanted) = IsWanted types n wanted
Suits types (order.modify n attribute value wanted) = IsModify types n attribute value wanted
Suits types (order.query a) = IsQuestion types a
Suits types (order.count a) = IsQuestion types a
Suits types (order.explain a) = IsQuestion types a
Suits types (order.describe n) = n < length types

-- an answer about the type with this number suits each list of types in which it has the number
abbrev pub SuitsAt : ℕ → Specification → Result Command LineFault → Type 0
SuitsAt n t result =
    (types : List Specification) → slice_get types n ≡ Some t
    → IfOk result (λ c. Suits types (order_of c))

abbrev pub IsQuestionAt : ℕ → Specification → Result Ask LineFault → Type 0
IsQuestionAt n t result =
    (types : List Specification) → slice_get types n ≡ Some t
    → IfOk result (λ a. IsQuestion types (asked_by a))
