use Rattle.std.proofs.Common.{◌≡◌, ◌∷◌, ◌<◌, ◌≤◌, true, false, suc, length, subst, sym, ap, ◌∙◌}
use Rattle.std.proofs.Common.{get_or, arith}
use Rattle.std.specs.Ordering.{nat_cmp, is_eq}
use Rattle.std.specs.Cmp.Lexicographic.{slice_cmp, texts_ties}
use Rattle.gm_table.specs.declared.row.Row.{Row}
use Rattle.gm_table.specs.Blocks.{lists_of, pair_of, rows_at, rows_of, rows_until}
use Rattle.gm_table.specs.Cursor.{rows_after, rows_below}
use Rattle.gm_table.proofs.Keys.{same_key}
use Rattle.gm_table.proofs.BlockChanges.{at_none, at_row, has_row}
use Rattle.gm_table.proofs.BlockKeys.{gap_none, gap_some}
use Rattle.gm_table.proofs.blocks.find.find_row.Goals as goal

-- no block is left
pub returns-then-at-blocks-clause-gap : goal.returns-then-at-blocks-clause-gap
returns-then-at-blocks-clause-gap c =
    let key = c.args.key.now in
    let all = rows_of (lists_of c.args.blocks.now) in
    let n = c.ahead-at.result.block in
    let row = c.ahead-at.result.row in
    let until = rows_until n row c.args.blocks.now in
    let from = rows_at n row c.args.blocks.now in
    let asked = c.of_key.ensures in
    let below : until ≡ rows_below key all =
    c.ahead-at.ensures.until ∙ c.place_of.ensures.before ∙ ap (λ k. rows_below k all) asked in
    let after : from ≡ rows_after key all =
    c.ahead-at.ensures.from ∙ c.place_of.ensures.from ∙ ap (λ k. rows_after k all) asked in
    gap_none key all until from below after
    (at_none c.args.blocks.now n row (omega (arith, c.if-at-blocks.true)))

-- the end of all
pub returns-then-at-rows-clause-gap : goal.returns-then-at-rows-clause-gap
returns-then-at-rows-clause-gap c =
    let key = c.args.key.now in
    let all = rows_of (lists_of c.args.blocks.now) in
    let n = c.ahead-at.result.block in
    let row = c.ahead-at.result.row in
    let until = rows_until n row c.args.blocks.now in
    let from = rows_at n row c.args.blocks.now in
    let asked = c.of_key.ensures in
    let below : until ≡ rows_below key all =
    c.ahead-at.ensures.until ∙ c.place_of.ensures.before ∙ ap (λ k. rows_below k all) asked in
    let after : from ≡ rows_after key all =
    c.ahead-at.ensures.from ∙ c.place_of.ensures.from ∙ ap (λ k. rows_after k all) asked in
    gap_none key all until from below after
    (c.ahead-at.ensures.end c.index-blocks-at.result (omega (arith, c.if-at-blocks.false))
    (subst (λ xs. length xs ≤ row) c.as_slice-rows.ensures c.if-at-rows.true))

pub returns-then-eq-clause-there : goal.returns-then-eq-clause-there
returns-then-eq-clause-there c =
    let key = c.args.key.now in
    let row = c.ahead-at.result.row in
    let r = c.index-rows-at.result in
    let same : is_eq (slice_cmp nat_cmp key r.key) ≡ true =
    ap (λ (it : Row). is_eq (slice_cmp nat_cmp key it.key)) c.index-rows-at.is
    ∙ sym (texts_ties key _) ∙ sym c.eq.ensures ∙ c.if-eq.true in
    has_row key c.args.blocks.now c.ahead-at.result.block row c.index-blocks-at.result r
    (omega (arith, c.if-at-blocks.false))
    (subst (λ xs. row < length xs) c.as_slice-rows.ensures c.if-at-rows.false)
    (subst (λ xs. r ≡ get_or xs row r) c.as_slice-rows.ensures c.index-rows-at.is)
    (same_key key r.key same)

-- the first row has another key
pub returns-clause-gap : goal.returns-clause-gap
returns-clause-gap c =
    let key = c.args.key.now in
    let all = rows_of (lists_of c.args.blocks.now) in
    let n = c.ahead-at.result.block in
    let row = c.ahead-at.result.row in
    let until = rows_until n row c.args.blocks.now in
    let from = rows_at n row c.args.blocks.now in
    let asked = c.of_key.ensures in
    let below : until ≡ rows_below key all =
    c.ahead-at.ensures.until ∙ c.place_of.ensures.before ∙ ap (λ k. rows_below k all) asked in
    let after : from ≡ rows_after key all =
    c.ahead-at.ensures.from ∙ c.place_of.ensures.from ∙ ap (λ k. rows_after k all) asked in
    let r = c.index-rows-at.result in
    let d = c.index-blocks-at.result in
    let other : is_eq (slice_cmp nat_cmp key r.key) ≡ false =
    ap (λ (it : Row). is_eq (slice_cmp nat_cmp key it.key)) c.index-rows-at.is
    ∙ sym (texts_ties key _) ∙ sym c.eq.ensures ∙ c.if-eq.false in
    let first = at_row c.args.blocks.now n row d r (omega (arith, c.if-at-blocks.false))
    (subst (λ xs. row < length xs) c.as_slice-rows.ensures c.if-at-rows.false) in
    let is : r ≡ get_or (get_or c.args.blocks.now n d).rows row r =
    subst (λ xs. r ≡ get_or xs row r) c.as_slice-rows.ensures c.index-rows-at.is in
    gap_some key all until from (pair_of r) (rows_at n (suc row) c.args.blocks.now)
    c.requires.rising below after
    (first ∙ ap (λ (it : Row). pair_of it ∷ rows_at n (suc row) c.args.blocks.now) (sym is)) other
