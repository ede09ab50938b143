use Rattle.std.proofs.Common.{◌≡◌, ◌+◌, ◌++◌, ◌∷◌, List, ℕ, false, length, sym, ap, subst, ◌∙◌}
use Rattle.std.proofs.Common.{arith}
use Rattle.std.specs.Prelude.{Ok, Err, All}
use Rattle.std.specs.Ordering.{nat_cmp, is_le}
use Rattle.std.specs.Cmp.Lexicographic.{slice_cmp}
use Rattle.std.proofs.lemmas.Result.{err_from_is_err_and}
use Rattle.std.proofs.lemmas.Grind.{common_steps}
use Rattle.std.proofs.lemmas.List.Elements.{All-weaker}
use Rattle.gm_base.specs.Tally.{tally_number}
use Rattle.gm_table.specs.Cursor.{pending, rows_below}
use Rattle.gm_table.proofs.Handing.{one_of}
use Rattle.gm_table.proofs.Walks.{Walk, pending-steps, below-more, Walk-more, Walk-stops}
use Rattle.gm_table.proofs.cursor.hand_out_all.Goals as goal

pub row-requires : goal.row-requires
row-requires g c =
    let row : List ℕ × List ℕ = (c.in-Some.key.now, c.in-Some.bytes.now) in
    let P = λ (row : List ℕ × List ℕ). g.V.Visit.admits c.rows.visit row.0 row.1 in
    let shown : pending c.rows.next c.rows.rest ≡ row ∷ c.rows.rest =
    ap (λ next. pending next c.rows.rest) c.in-Some.is in
    let below : is_le (slice_cmp nat_cmp c.args.high.now c.in-Some.key.now) ≡ false =
    grind (arith, common_steps) in
    let walk = c.rows.invariant.walk in
    let whole : rows_below c.args.high.now (pending c.args.place c.args.rest.now)
    ≡ walk.done ++ row ∷ rows_below c.args.high.now c.rows.rest =
    walk.below ∙ ap (λ rows. walk.done ++ rows_below c.args.high.now rows) shown
    ∙ ap (λ rows. walk.done ++ rows) (below-more c.args.high.now row c.rows.rest below) in
    let here : P row =
    one_of P walk.done row (rows_below c.args.high.now c.rows.rest)
    (subst (All P) whole c.rows.invariant.admits) in
    subst (λ key. g.V.Visit.admits c.rows.visit key c.as_slice-in-Some.result.now)
    (sym c.as_slice.ensures)
    (subst (λ bytes. g.V.Visit.admits c.rows.visit c.in-Some.key.now bytes)
    (sym c.as_slice-in-Some.ensures) here)

pub rows-preserved : goal.rows-preserved
rows-preserved g c =
    let row : List ℕ × List ℕ = (c.in-Some.key.now, c.in-Some.bytes.now) in
    let all = pending c.args.place c.args.rest.now in
    let high = c.args.high.now in
    let P = λ (row : List ℕ × List ℕ). g.V.Visit.admits c.rows.visit row.0 row.1 in
    let Q = λ (row : List ℕ × List ℕ). g.V.Visit.admits c.row.new.self row.0 row.1 in
    let shown : pending c.rows.next c.rows.rest ≡ row ∷ c.rows.rest =
    ap (λ next. pending next c.rows.rest) c.in-Some.is in
    let below : is_le (slice_cmp nat_cmp high c.in-Some.key.now) ≡ false =
    grind (arith, common_steps) in
    let walk = subst
    (λ left. Walk g.V.Visit.takes c.args.visit.now c.rows.visit high all left
    (tally_number c.args.tally.now) (tally_number c.rows.tally)) shown
    c.rows.invariant.walk in
    let whole : rows_below high all ≡ walk.done ++ row ∷ rows_below high c.rows.rest =
    walk.below ∙ ap (λ rows. walk.done ++ rows) (below-more high row c.rows.rest below) in
    let here : P row =
    one_of P walk.done row (rows_below high c.rows.rest)
    (subst (All P) whole c.rows.invariant.admits) in
    let took : g.V.Visit.takes c.rows.visit row.0 row.1 (Ok tt) c.row.new.self =
    rw (← c.as_slice.ensures, ← c.as_slice-in-Some.ensures) c.in_ok-row.ensures in
    record {
      walk = subst (λ left. Walk g.V.Visit.takes c.args.visit.now c.row.new.self high all left
          (tally_number c.args.tally.now) (tally_number c.add.new.self))
          (sym (pending-steps _ _ _ c.next-next.ensures.steps))
          (Walk-more g.V.Visit.takes c.args.visit.now c.rows.visit c.row.new.self high all row
          c.rows.rest (tally_number c.args.tally.now) (tally_number c.rows.tally)
          (tally_number c.add.new.self) below took c.add.ensures walk);
      admits = All-weaker P Q (λ other may. g.met.V.Visit.keeps _ _ _ _ _ _ _ here took may)
          (rows_below high all) c.rows.invariant.admits;
    }

-- the visitor had no memory
pub returns-in_err-row-clause-stopped : goal.returns-in_err-row-clause-stopped
returns-in_err-row-clause-stopped g c =
    let row : List ℕ × List ℕ = (c.in-Some.key.now, c.in-Some.bytes.now) in
    let all = pending c.args.place c.args.rest.now in
    let high = c.args.high.now in
    let shown : pending c.rows.next c.rows.rest ≡ row ∷ c.rows.rest =
    ap (λ next. pending next c.rows.rest) c.in-Some.is in
    let below : is_le (slice_cmp nat_cmp high c.in-Some.key.now) ≡ false =
    grind (arith, common_steps) in
    let walk = subst
    (λ left. Walk g.V.Visit.takes c.args.visit.now c.rows.visit high all left
    (tally_number c.args.tally.now) (tally_number c.rows.tally)) shown
    c.rows.invariant.walk in
    let refused : g.V.Visit.takes c.rows.visit row.0 row.1 (Err c.in_err-row.field-0.0)
    c.row.new.self =
    rw (← c.as_slice.ensures, ← c.as_slice-in-Some.ensures) c.in_err-row.ensures in
    let p = err_from_is_err_and c.from_residual.result c.from_residual.ensures.1 in
    rw (p.1, p.2) (
      length walk.done + 1,
      Walk-stops g.V.Visit.takes c.args.visit.now c.rows.visit c.row.new.self high all row
          c.rows.rest (tally_number c.args.tally.now) (tally_number c.rows.tally)
          c.in_err-row.field-0.0 below refused walk,
      omega (arith, c.add.ensures, walk.tally),
    )
