-- Rows that are found, in the order of their identifiers.
use Rattle.std.specs.Prelude.{◌≡◌, ℕ, List, [], ◌∷◌, All, map}
use Rattle.std.specs.Ordering.{nat_cmp}
use Rattle.std.specs.Cmp.Lexicographic.{slice_cmp}
use Rattle.std.specs.BTreeMap.{insert_entry}
use denote.Ref.{Bor}
use Rattle.gm_types.specs.Specification.{Specification}
use Rattle.gm_feature.specs.declared.feature.Feature.{Feature}
use Rattle.gm_feature.specs.Feature.{Fits}
use Rattle.gm_scan.specs.FoundRows.{FoundRow, row_of}

-- the rows are put among those before them, each by its identifier
abbrev pub put_all : List FoundRow → List FoundRow → List FoundRow
put_all held [] = held
put_all held (row ∷ rows) = put_all (insert_entry (slice_cmp nat_cmp) held row.0 row.1) rows

-- the rows in byte order of their identifiers, each identifier once
abbrev pub in_order : List FoundRow → List FoundRow
in_order rows = put_all [] rows

-- a row that is lent
abbrev pub seen : Bor (List ℕ) × Bor (List ℕ) → FoundRow
seen row = (row.0.now, row.1.now)

-- rows with one identifier have the same bytes
abbrev pub AreBound : List FoundRow → Type 0
AreBound rows = (bytes_of : List ℕ → List ℕ) × All (λ row. row.1 ≡ bytes_of row.0) rows

-- they are the rows of these features, which fit the type
pub record AreRowsOf (t : Specification) (rows : List FoundRow)
    (features : List Feature) : Type 0 where
  pub fit : All (Fits t) features
  pub are : rows ≡ map row_of features
