-- What is kept of the features that the parts of a plan find.
use Rattle.std.specs.Prelude.{◌≡◌, ℕ, List, [], ◌++◌, map, Some}
use Rattle.std.specs.List.{AllByRecursion}
use Rattle.gm_feature.specs.declared.feature.Feature.{Feature}
use Rattle.gm_filter.specs.Tree.{Tree}
use Rattle.gm_scan.specs.declared.found_rows.Keeping.{Keeping}
use Rattle.gm_scan.specs.FoundRows.{FoundRow, kept_of}
use Rattle.gm_engine_rows.specs.State.{State, feature_at}
use Rattle.gm_program.specs.Collecting.{Collects, collected}
use Rattle.gm_program.specs.Found.{Finds}

-- a part adds what it finds
pub record Adds (s : State) (n : ℕ) (test : Tree) (keeping : Keeping)
    (before after : List FoundRow) : Type 0 where
  pub features : List Feature
  pub finds : Finds s n test features
  pub are : after ≡ before ++ map (kept_of keeping) features

-- the rows are what is kept of features of the state, which are those that the filters find
pub record AreKept (s : State) (n : ℕ) (tests : List Tree) (keeping : Keeping)
    (rows : List FoundRow) : Type 0 where
  pub features : List Feature
  pub are : rows ≡ map (kept_of keeping) features
  pub bound : AllByRecursion (λ f. feature_at n f.id s ≡ Some f) features
  pub collects : Collects s n tests (collected [] features)
