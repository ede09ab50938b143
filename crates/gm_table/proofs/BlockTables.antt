-- All rows of blocks, where one is changed, is new or is gone.
use Rattle.std.proofs.Common.{◌≡◌, List, [], ◌∷◌, ◌++◌, ℕ, suc, get_or, sym, ap, ◌∙◌}
use Rattle.gm_table.specs.declared.row.Row.{Row}
use Rattle.gm_table.specs.declared.blocks.block.Block.{Block}
use Rattle.gm_table.specs.Sorted.{IsRising}
use Rattle.gm_table.specs.Blocks.{rows_of, lists_of, IsGap, IsRowAt, rows_at, rows_until}
use Rattle.gm_table.proofs.BlockChanges.{at_row, both_sides}
use Rattle.gm_table.proofs.BlockKeys.{Added, Changed, Taken, is_added, is_changed, is_taken}

pub table_changed : (key bytes others : List ℕ) (before after : List Block) (n row : ℕ)
    → rows_of (lists_of after)
    ≡ rows_until n row before ++ (key, others) ∷ rows_at n (suc row) before
    → rows_at n row before ≡ (key, bytes) ∷ rows_at n (suc row) before
    → IsRising (rows_of (lists_of before))
    → Changed key others (rows_of (lists_of before)) (rows_of (lists_of after))
table_changed key bytes others before after n row now had rising =
    is_changed key bytes others (rows_of (lists_of before)) (rows_of (lists_of after))
    (rows_until n row before) (rows_at n (suc row) before) (rows_at n row before)
    (both_sides n row before) had now rising

pub table_added : (key bytes : List ℕ) (before after : List Block) (n row : ℕ)
    → rows_of (lists_of after) ≡ rows_until n row before ++ (key, bytes) ∷ rows_at n row before
    → IsGap key (rows_until n row before) (rows_at n row before)
    → IsRising (rows_of (lists_of before))
    → Added key bytes (rows_of (lists_of before)) (rows_of (lists_of after))
table_added key bytes before after n row now gap rising =
    is_added key bytes (rows_of (lists_of before)) (rows_of (lists_of after))
    (rows_until n row before) (rows_at n row before) (both_sides n row before) now gap rising

pub table_taken : (key : List ℕ) (before after : List Block) (n row : ℕ) → IsRowAt key n row before
    → rows_of (lists_of after) ≡ rows_until n row before ++ rows_at n (suc row) before
    → IsRising (rows_of (lists_of before))
    → Taken key (rows_of (lists_of before)) (rows_of (lists_of after))
table_taken key before after n row there now rising =
    let d : Block = record { front = 0; rows = [] } in
    let e : Row = record { key = []; bytes = [] } in
    let stands : Row = get_or (get_or before n d).rows row e in
    is_taken key stands.bytes (rows_of (lists_of before)) (rows_of (lists_of after))
    (rows_until n row before) (rows_at n (suc row) before) (rows_at n row before)
    (both_sides n row before)
    (at_row before n row d e there.within (there.inside d)
    ∙ ap (λ k. (k, stands.bytes) ∷ rows_at n (suc row) before) (sym (there.has d e))) now rising
