-- What a count makes of the rows that it is handed.
use Rattle.std.specs.Prelude.{◌≡◌, ℕ, Bool, if◌then◌else◌, List, Result, ⊤, OnOk}
use Rattle.gm_base.specs.Counter.{capped_sum}
use Rattle.gm_base.specs.declared.NoMemory.{NoMemory}
use Rattle.gm_feature.specs.declared.feature.Feature.{Feature}
use Rattle.gm_filter.specs.Truth.{is_true}
use Rattle.gm_scan.specs.declared.counted.Counted.{Counted}
use Rattle.gm_scan.specs.Held.{AreBytesOf}
use Rattle.gm_scan.specs.Trial.{type_of, filter_of}

-- one more where it matches, up to the greatest u64
abbrev pub raised : Bool → ℕ → ℕ
raised matches so_far = if matches then capped_sum so_far 1 else so_far

-- one row more: it counts where the filter is true of its feature
pub record Takes (before : Counted) (bytes : List ℕ) (answer : Result ⊤ NoMemory)
    (after : Counted) : Type 0 where
  pub same : after.trial.now ≡ before.trial.now
  pub counts : (feature : Feature) → AreBytesOf (type_of before.trial.now) bytes feature
      → OnOk answer (after.matched
      ≡ raised (is_true feature (filter_of before.trial.now)) before.matched)

abbrev pub takes_row : Counted → List ℕ → List ℕ → Result ⊤ NoMemory → Counted → Type 0
takes_row before key bytes answer after = Takes before bytes answer after
