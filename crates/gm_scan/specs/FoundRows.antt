-- What is kept of features that are found.
use Rattle.std.specs.Prelude.{ℕ, List, []}
use Rattle.gm_feature.specs.declared.feature.Feature.{Feature}
use Rattle.gm_feature.specs.Writer.{feature_bytes}
use Rattle.gm_scan.specs.declared.found_rows.Keeping.{Keeping}
use Rattle.gm_scan.specs.declared.found_rows.Keeping.TheVariants.{Rows, Ids}

-- an identifier, and bytes
abbrev pub FoundRow : Type 0
FoundRow = List ℕ × List ℕ

-- the identifier of a feature, and the bytes of the feature
abbrev pub row_of : Feature → FoundRow
row_of feature = (feature.id, feature_bytes feature)

-- its identifier, and no bytes
abbrev pub id_of : Feature → FoundRow
id_of feature = (feature.id, [])

-- the one or the other
abbrev pub kept_of : Keeping → Feature → FoundRow
kept_of Rows = row_of
kept_of Ids = id_of
