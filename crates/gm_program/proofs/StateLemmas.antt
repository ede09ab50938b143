-- The state without types.
use Rattle.std.proofs.Common.{◌≡◌, [], List, ℕ, refl, sym, ◌∙◌}
use Rattle.std.specs.Ordering.{nat_cmp}
use Rattle.std.specs.Cmp.Lexicographic.{slice_cmp}
use Rattle.std.specs.FinMap as map
use Rattle.std.specs.FinMap.{len-empty, len-entries}
use Rattle.std.proofs.lemmas.List.{nil_from_length}
use Rattle.gm_types.specs.Words.{are_distinct}
use Rattle.gm_engine_rows.specs.State.{IsState}
use Rattle.gm_engine_rows.specs.Rows.{rows_of, row_map}

pub rows_of-none : rows_of [] ≡ []
unfolding rows_of row_map
rows_of-none =
    nil_from_length (map.entries (map.empty {K = List ℕ} {X = List ℕ} {R = slice_cmp nat_cmp}))
    (sym (len-entries (map.empty {K = List ℕ} {X = List ℕ} {R = slice_cmp nat_cmp}))
    ∙ len-empty (slice_cmp nat_cmp) (List ℕ))

pub is_state-none : IsState []
unfolding are_distinct
is_state-none = record {
  placed = λ n t at. absurd (cc);
  distinct = refl;
  held = λ n t id feature at bound. absurd (cc);
}
