-- The spans of keys that are read for a part of a plan.
use Rattle.std.specs.Prelude.{◌≡◌, ℕ, List, [], ◌∷◌, All, length}
use Rattle.gm_base.specs.Spans.{Span}
use Rattle.gm_table.specs.Apart.{AreApart}
use Rattle.gm_table.specs.Sorted.{Rows}
use Rattle.gm_table.specs.Spans.{rows_in}
use Rattle.gm_types.specs.Specification.{Specification}
use Rattle.gm_feature.specs.declared.feature.Feature.{Feature}
use Rattle.gm_engine_rows.specs.State.{State}
use Rattle.gm_engine_rows.specs.Rows.{rows_of}
use Rattle.gm_scan.specs.Held.{HasFeature, Hold, matching}
use Rattle.gm_strategy.specs.Choice.{Chosen}
use Rattle.gm_program.specs.Collecting.{Counts}
use Rattle.gm_program.specs.Found.{Finds}
use Rattle.gm_program.specs.Question.{rows_read}

-- No key is in two of the spans, and each row in them is of a feature of the type. Of these
-- features those of which the filter is true are exactly what the part is to find, each of them
-- once. The rows are as many as the part reads.
pub record AreReadFor (s : State) (t : Specification) (part : Chosen) (target : ℕ) (rows : Rows)
    (spans : List Span) : Type 0 where
  pub apart : AreApart spans
  pub of_type : All (λ row. HasFeature t row.1) (rows_in spans rows)
  pub features : List Feature
  pub held : Hold t (rows_in spans rows) features
  pub finds : Finds s t.number part.wanted (matching part.wanted features)
  pub once : Counts s t.number (part.wanted ∷ []) (length (matching part.wanted features))
  pub examined : length (rows_in spans rows) ≡ rows_read t target (rows_of s) part
