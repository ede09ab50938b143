-- The rows of spans of keys.
use Rattle.std.specs.Prelude.{List, [], ◌∷◌, ◌++◌}
use Rattle.gm_base.specs.Spans.{Span}
use Rattle.gm_table.specs.Sorted.{Rows, between}

-- the rows of each span, one span after the other
abbrev pub rows_in : List Span → Rows → Rows
rows_in [] rows = []
rows_in (span ∷ spans) rows = between span.0 span.1 rows ++ rows_in spans rows
