use Rattle.std.proofs.Common.{◌≡◌, true, [], ◌∷◌, refl, ap, ◌∙◌}
use Rattle.std.specs.Prelude.{filter}
use Rattle.gm_table.specs.Sorted.{Rows}
use Rattle.gm_table.proofs.cursor.from_first.Goals as goal

-- a filter that keeps all
kept : (rows : Rows) → filter (λ _. true) rows ≡ rows
kept [] = refl
kept (row ∷ rows) = ap (λ later. row ∷ later) (kept rows)

pub returns : goal.returns
returns c = c.range.ensures.between tt ∙ kept c.args.map.now.entries
