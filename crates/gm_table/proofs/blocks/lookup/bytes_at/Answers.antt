use Rattle.std.proofs.Common.{◌≡◌, true, false, Some, sym, ap, ◌∙◌}
use Rattle.std.specs.Ordering.{nat_cmp, is_eq}
use Rattle.std.specs.Cmp.Lexicographic.{slice_cmp, texts_ties}
use Rattle.gm_table.specs.Blocks.{pair_of, lists_of, rows_of, rows_at}
use Rattle.gm_table.specs.Cursor.{rows_after}
use Rattle.gm_table.proofs.BlockLookups.{none_at, some_at, apart_at}
use Rattle.gm_table.proofs.blocks.lookup.bytes_at.Goals as goal

pub returns-in-None : goal.returns-in-None
returns-in-None c =
    let key = c.args.key.now in
    let all = rows_of (lists_of c.args.blocks.now) in
    let front = rows_at c.place_of-place.result.block c.place_of-place.result.row
    c.args.blocks.now in
    let at : front ≡ rows_after key all =
    c.place_of-place.ensures.from ∙ ap (λ k. rows_after k all) c.of_key.ensures in
    none_at key all front c.requires.rising at c.in-None.ensures

pub returns-then-eq : goal.returns-then-eq
returns-then-eq c =
    let key = c.args.key.now in
    let row = c.in-Some.row.now in
    let all = rows_of (lists_of c.args.blocks.now) in
    let front = rows_at c.place_of-place.result.block c.place_of-place.result.row
    c.args.blocks.now in
    let at : front ≡ rows_after key all =
    c.place_of-place.ensures.from ∙ ap (λ k. rows_after k all) c.of_key.ensures in
    let same : is_eq (slice_cmp nat_cmp key row.key) ≡ true =
    sym (texts_ties key row.key) ∙ sym c.eq.ensures ∙ c.if-eq.true in
    ap (λ bytes. Some bytes) c.as_slice.ensures
    ∙ some_at key all front (pair_of row) c.in-Some.ensures.0 c.requires.rising at
    c.in-Some.ensures.1 same

pub returns-else-eq : goal.returns-else-eq
returns-else-eq c =
    let key = c.args.key.now in
    let row = c.in-Some.row.now in
    let all = rows_of (lists_of c.args.blocks.now) in
    let front = rows_at c.place_of-place.result.block c.place_of-place.result.row
    c.args.blocks.now in
    let at : front ≡ rows_after key all =
    c.place_of-place.ensures.from ∙ ap (λ k. rows_after k all) c.of_key.ensures in
    let other : is_eq (slice_cmp nat_cmp key row.key) ≡ false =
    sym (texts_ties key row.key) ∙ sym c.eq.ensures ∙ c.if-eq.false in
    apart_at key all front (pair_of row) c.in-Some.ensures.0 c.requires.rising at
    c.in-Some.ensures.1 other
