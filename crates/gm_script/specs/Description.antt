-- How a type is described.
use Rattle.std.specs.Prelude.{ℕ, List, ◌∷◌, ◌++◌, map, codes}
use Rattle.std.specs.Fmt.{decimal}
use Rattle.gm_calendar.specs.declared.period.Period.{Period}
use Rattle.gm_calendar.specs.declared.period.Period.TheVariants.{Day, Week, Month, Year}
use Rattle.gm_types.specs.declared.index.IndexKind.{IndexKind}
use Rattle.gm_types.specs.declared.index.IndexKind.TheVariants.{Id, Z2, Z3, Xz2, Xz3, Attr}
use Rattle.gm_types.specs.Index.{enabled_indexes, index_name}
use Rattle.gm_types.specs.Spelling.{canonical_text}
use Rattle.gm_types.specs.Specification.{Specification, period_of, shards_of, precision_of}
use Rattle.gm_types.specs.Specification.{z2_bits_of, z3_bits_of}

abbrev pub period_name : Period → List ℕ
period_name Day = codes "day"
period_name Week = codes "week"
period_name Month = codes "month"
period_name Year = codes "year"

abbrev pub bits_text : ℕ → List ℕ
bits_text bits = codes " bits " ++ decimal bits

abbrev pub precision_text : Specification → List ℕ
precision_text t = codes " precision " ++ decimal (precision_of t)

abbrev pub period_text : Specification → List ℕ
period_text t = codes " period " ++ period_name (period_of t)

abbrev pub shards_text : Specification → List ℕ
shards_text t = codes " shards " ++ decimal (shards_of t)

-- what an index is set to
abbrev pub settings_text : Specification → IndexKind → List ℕ
settings_text t Id = codes ""
settings_text t Z2 = bits_text (z2_bits_of t) ++ shards_text t
settings_text t Z3 = bits_text (z3_bits_of t) ++ (period_text t ++ shards_text t)
settings_text t Xz2 = precision_text t ++ shards_text t
settings_text t Xz3 = precision_text t ++ (period_text t ++ shards_text t)
settings_text t (Attr attribute) = codes ""

abbrev pub index_line : Specification → IndexKind → List ℕ
index_line t kind = codes "index " ++ (index_name t kind ++ settings_text t kind)

-- the canonical text, and a line for each enabled index in order
abbrev pub description_of : Specification → List (List ℕ)
description_of t = canonical_text t ∷ map (index_line t) (enabled_indexes t)
