-- What a scan keeps of the rows that it is handed.
use Rattle.std.specs.Prelude.{◌≡◌, ℕ, List, [], ◌∷◌, ◌++◌, Result, ⊤, OnOk}
use Rattle.gm_base.specs.declared.NoMemory.{NoMemory}
use Rattle.gm_feature.specs.declared.feature.Feature.{Feature}
use Rattle.gm_scan.specs.declared.found.Found.{Found}
use Rattle.gm_scan.specs.Held.{AreBytesOf, matching}
use Rattle.gm_scan.specs.Trial.{type_of, filter_of}

-- one row more: its feature is kept where the filter is true of it
pub record Takes (before : Found) (bytes : List ℕ) (answer : Result ⊤ NoMemory)
    (after : Found) : Type 0 where
  pub same : after.trial.now ≡ before.trial.now
  pub keeps : (feature : Feature) → AreBytesOf (type_of before.trial.now) bytes feature
      → OnOk answer (after.features
      ≡ before.features ++ matching (filter_of before.trial.now) (feature ∷ []))

abbrev pub takes_row : Found → List ℕ → List ℕ → Result ⊤ NoMemory → Found → Type 0
takes_row before key bytes answer after = Takes before bytes answer after
