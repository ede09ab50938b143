-- What a scan keeps, as it stands, of the rows that it is handed.
use Rattle.std.specs.Prelude.{◌≡◌, ℕ, List, [], ◌∷◌, ◌++◌, map, Result, ⊤, OnOk}
use Rattle.gm_base.specs.declared.NoMemory.{NoMemory}
use Rattle.gm_feature.specs.declared.feature.Feature.{Feature}
use Rattle.gm_scan.specs.declared.kept.Kept.{Kept}
use Rattle.gm_scan.specs.FoundRows.{kept_of}
use Rattle.gm_scan.specs.Held.{AreBytesOf, matching}
use Rattle.gm_scan.specs.Trial.{type_of, filter_of}

-- one row more: it is kept where the filter is true of its feature
pub record Takes (before : Kept) (bytes : List ℕ) (answer : Result ⊤ NoMemory)
    (after : Kept) : Type 0 where
  pub same : after.trial.now ≡ before.trial.now
  pub way : after.keeping ≡ before.keeping
  pub keeps : (feature : Feature) → AreBytesOf (type_of before.trial.now) bytes feature
      → OnOk answer (after.rows
      ≡ before.rows ++ map (kept_of before.keeping)
      (matching (filter_of before.trial.now) (feature ∷ [])))

abbrev pub takes_row : Kept → List ℕ → List ℕ → Result ⊤ NoMemory → Kept → Type 0
takes_row before key bytes answer after = Takes before bytes answer after
