-- The state of a store: its types with their features.
use Rattle.std.specs.Prelude.{◌≡◌, ℕ, zero, suc, true, List, [], ◌∷◌, ◌++◌, map, slice_get, Option}
use Rattle.std.specs.Prelude.{Some, None}
use Rattle.std.specs.Ordering.{nat_cmp}
use Rattle.std.specs.Cmp.Lexicographic.{slice_cmp}
use Rattle.std.specs.FinMap as features
use Rattle.gm_types.specs.FeatureType.{IsType}
use Rattle.gm_types.specs.Specification.{Specification}
use Rattle.gm_types.specs.Words.{are_distinct}
use Rattle.gm_feature.specs.declared.feature.Feature.{Feature}
use Rattle.gm_feature.specs.Feature.{Fits}

-- features by their identifiers
abbrev pub Features : Type 0
Features = features.FinMap (slice_cmp nat_cmp) Feature

-- a type with its features
pub record Collection : Type 0 where
  pub specification : Specification
  pub features : Features

-- the types in order of creation; the number of a type is its place, from 0
abbrev pub State : Type 0
State = List Collection

abbrev pub types_of : State → List Specification
types_of s = map (λ c. c.specification) s

abbrev pub type_at : ℕ → State → Option Specification
type_at n s = slice_get (types_of s) n

-- the features of the type with this number
abbrev pub features_of : ℕ → State → Features
features_of n [] = features.empty
features_of zero (c ∷ s) = c.features
features_of (suc n) (c ∷ s) = features_of n s

-- the feature of the type with this number that has this identifier
abbrev pub feature_at : ℕ → List ℕ → State → Option Feature
feature_at n id s = features.get (features_of n s) id

-- a further type, without features
abbrev pub with_type : Specification → State → State
with_type t s = s ++ record { specification = t; features = features.empty } ∷ []

-- the identifier is bound to the feature, or unbound
abbrev pub set_at : Features → List ℕ → Option Feature → Features
set_at held id None = features.remove held id
set_at held id (Some feature) = features.insert held id feature

-- the same for the type with this number
abbrev pub changed_in : ℕ → List ℕ → Option Feature → State → State
changed_in n id new [] = []
changed_in zero id new (c ∷ s) = record c { features = set_at c.features id new } ∷ s
changed_in (suc n) id new (c ∷ s) = c ∷ changed_in n id new s

-- a type whose number is its place
pub record IsPlaced (n : ℕ) (t : Specification) : Type 0 where
  pub typed : IsType t
  pub numbered : t.number ≡ n

-- a feature that fits the type, with this identifier
pub record IsHeld (t : Specification) (id : List ℕ) (feature : Feature) : Type 0 where
  pub fits : Fits t feature
  pub named : feature.id ≡ id

-- types that stand at their numbers, with distinct names, whose features fit and are bound to their
-- identifiers
pub record IsState (s : State) : Type 0 where
  pub placed : (n : ℕ) (t : Specification) → type_at n s ≡ Some t → IsPlaced n t
  pub distinct : are_distinct (map (λ t. t.name) (types_of s)) ≡ true
  pub held : (n : ℕ) (t : Specification) (id : List ℕ) (feature : Feature) → type_at n s ≡ Some t
      → feature_at n id s ≡ Some feature
      → IsHeld t id feature
