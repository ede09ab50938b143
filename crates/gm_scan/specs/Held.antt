-- The features that rows hold.
use Rattle.std.specs.Prelude.{◌≡◌, ℕ, List, [], ◌∷◌, filter, if◌then◌else◌, Option, Some, None, ⊤}
use Rattle.gm_table.specs.Sorted.{Rows}
use Rattle.gm_types.specs.Specification.{Specification}
use Rattle.gm_feature.specs.declared.feature.Feature.{Feature}
use Rattle.gm_feature.specs.Feature.{Fits}
use Rattle.gm_feature.specs.Writer.{feature_bytes}
use Rattle.gm_filter.specs.Tree.{Tree}
use Rattle.gm_filter.specs.Truth.{is_true}

-- the feature fits the type, and the bytes are its own
pub record AreBytesOf (t : Specification) (bytes : List ℕ) (feature : Feature) : Type 0 where
  pub fits : Fits t feature
  pub same : bytes ≡ feature_bytes feature

-- there is such a feature
abbrev pub HasFeature : Specification → List ℕ → Type 0
HasFeature t bytes = (feature : Feature) × AreBytesOf t bytes feature

-- the rows hold these features, each row one, in order
abbrev pub Hold : Specification → Rows → List Feature → Type 0
Hold t [] [] = ⊤
Hold t [] (feature ∷ features) = ⊥
Hold t (row ∷ rows) [] = ⊥
Hold t (row ∷ rows) (feature ∷ features) = AreBytesOf t row.1 feature × Hold t rows features

-- those of the features of which the filter is true
abbrev pub matching : Tree → List Feature → List Feature
matching t features = filter (λ feature. is_true feature t) features

-- the feature, if the filter is true of it
abbrev pub passing : Tree → Feature → Option Feature
passing t feature = if is_true feature t then Some feature else None
