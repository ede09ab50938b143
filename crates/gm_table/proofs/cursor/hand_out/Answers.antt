use Rattle.std.proofs.Common.{◌≡◌, ◌+◌, ◌++◌, ◌∷◌, List, [], ℕ, false, length, sym, ap, subst, ◌∙◌}
use Rattle.std.proofs.Common.{arith}
use Rattle.std.specs.Prelude.{Ok, Err, All}
use Rattle.std.specs.Ordering.{nat_cmp, is_le}
use Rattle.std.specs.Cmp.Lexicographic.{slice_cmp}
use Rattle.std.proofs.lemmas.Result.{err_from_is_err_and, IfErr-weaker, on_ok_weaker}
use Rattle.std.proofs.lemmas.Grind.{common_steps}
use Rattle.std.proofs.lemmas.List.{append-nil}
use Rattle.std.proofs.lemmas.List.Elements.{All-weaker}
use Rattle.gm_base.specs.Tally.{tally_number}
use Rattle.gm_table.specs.Cursor.{pending, rows_below, IsLastOf}
use Rattle.gm_table.specs.Visit.{Handed}
use Rattle.gm_table.proofs.Handing.{one_of}
use Rattle.gm_table.proofs.Places.{less-last}
use Rattle.gm_table.proofs.Spans.{All-back, Handed-both, stops_after, capped_more}
use Rattle.gm_table.proofs.Walks.{Walk, pending-steps, below-more, Walk-more, Walk-stops}
use Rattle.gm_table.proofs.cursor.hand_out.Goals as goal

pub row-requires : goal.row-requires
row-requires g c =
    let row : List ℕ × List ℕ = (c.in-Some.key.now, c.in-Some.bytes.now) in
    let P = λ (row : List ℕ × List ℕ). g.V.Visit.admits c.few.visit row.0 row.1 in
    let shown : pending c.few.next c.few.rest ≡ row ∷ c.few.rest =
    ap (λ next. pending next c.few.rest) c.in-Some.is in
    let below : is_le (slice_cmp nat_cmp c.args.high.now c.in-Some.key.now) ≡ false =
    grind (arith, common_steps) in
    let walk = c.few.invariant.walk in
    let whole : rows_below c.args.high.now (pending c.args.place c.args.rest.now)
    ≡ walk.done ++ row ∷ rows_below c.args.high.now c.few.rest =
    walk.below ∙ ap (λ rows. walk.done ++ rows_below c.args.high.now rows) shown
    ∙ ap (λ rows. walk.done ++ rows) (below-more c.args.high.now row c.few.rest below) in
    let here : P row =
    one_of P walk.done row (rows_below c.args.high.now c.few.rest)
    (subst (All P) whole c.few.invariant.admits) in
    subst (λ key. g.V.Visit.admits c.few.visit key c.as_slice-in-few.result.now)
    (sym c.as_slice.ensures)
    (subst (λ bytes. g.V.Visit.admits c.few.visit c.in-Some.key.now bytes)
    (sym c.as_slice-in-few.ensures) here)

pub few-preserved : goal.few-preserved
few-preserved g c =
    let row : List ℕ × List ℕ = (c.in-Some.key.now, c.in-Some.bytes.now) in
    let all = pending c.args.place c.args.rest.now in
    let high = c.args.high.now in
    let P = λ (row : List ℕ × List ℕ). g.V.Visit.admits c.few.visit row.0 row.1 in
    let Q = λ (row : List ℕ × List ℕ). g.V.Visit.admits c.row.new.self row.0 row.1 in
    let shown : pending c.few.next c.few.rest ≡ row ∷ c.few.rest =
    ap (λ next. pending next c.few.rest) c.in-Some.is in
    let below : is_le (slice_cmp nat_cmp high c.in-Some.key.now) ≡ false =
    grind (arith, common_steps) in
    let walk = subst
    (λ left. Walk g.V.Visit.takes c.args.visit.now c.few.visit high all left
    (tally_number c.args.tally.now) (tally_number c.few.tally)) shown
    c.few.invariant.walk in
    let whole : rows_below high all ≡ walk.done ++ row ∷ rows_below high c.few.rest =
    walk.below ∙ ap (λ rows. walk.done ++ rows) (below-more high row c.few.rest below) in
    let here : P row =
    one_of P walk.done row (rows_below high c.few.rest)
    (subst (All P) whole c.few.invariant.admits) in
    let took : g.V.Visit.takes c.few.visit row.0 row.1 (Ok tt) c.row.new.self =
    rw (← c.as_slice.ensures, ← c.as_slice-in-few.ensures) c.in_ok-row.ensures in
    record {
      walk = subst (λ left. Walk g.V.Visit.takes c.args.visit.now c.row.new.self high all left
          (tally_number c.args.tally.now) (tally_number c.add.new.self))
          (sym (pending-steps _ _ _ c.next-next.ensures.steps))
          (Walk-more g.V.Visit.takes c.args.visit.now c.few.visit c.row.new.self high all row
          c.few.rest (tally_number c.args.tally.now) (tally_number c.few.tally)
          (tally_number c.add.new.self) below took c.add.ensures walk);
      admits = All-weaker P Q (λ other may. g.met.V.Visit.keeps _ _ _ _ _ _ _ here took may)
          (rows_below high all) c.few.invariant.admits;
      last = subst (λ rows. IsLastOf rows c.args.map.now.entries)
          (sym (pending-steps _ _ _ c.next-next.ensures.steps))
          (less-last row c.few.rest c.args.map.now.entries
          (subst (λ rows. IsLastOf rows c.args.map.now.entries) shown c.few.invariant.last));
    }

-- the visitor had no memory
pub returns-in_err-row-clause-stopped : goal.returns-in_err-row-clause-stopped
returns-in_err-row-clause-stopped g c =
    let row : List ℕ × List ℕ = (c.in-Some.key.now, c.in-Some.bytes.now) in
    let all = pending c.args.place c.args.rest.now in
    let high = c.args.high.now in
    let shown : pending c.few.next c.few.rest ≡ row ∷ c.few.rest =
    ap (λ next. pending next c.few.rest) c.in-Some.is in
    let below : is_le (slice_cmp nat_cmp high c.in-Some.key.now) ≡ false =
    grind (arith, common_steps) in
    let walk = subst
    (λ left. Walk g.V.Visit.takes c.args.visit.now c.few.visit high all left
    (tally_number c.args.tally.now) (tally_number c.few.tally)) shown
    c.few.invariant.walk in
    let refused : g.V.Visit.takes c.few.visit row.0 row.1 (Err c.in_err-row.field-0.0)
    c.row.new.self =
    rw (← c.as_slice.ensures, ← c.as_slice-in-few.ensures) c.in_err-row.ensures in
    let p = err_from_is_err_and c.from_residual.result c.from_residual.ensures.1 in
    rw (p.1, p.2) (
      length walk.done + 1,
      Walk-stops g.V.Visit.takes c.args.visit.now c.few.visit c.row.new.self high all row c.few.rest
          (tally_number c.args.tally.now) (tally_number c.few.tally) c.in_err-row.field-0.0 below
          refused walk,
      omega (arith, c.add.ensures, walk.tally),
    )

-- ---- after the first few
pub hand_out_many-requires-clause-admits : goal.hand_out_many-requires-clause-admits
hand_out_many-requires-clause-admits g c =
    let P = λ (row : List ℕ × List ℕ). g.V.Visit.admits c.few.visit row.0 row.1 in
    All-back P c.few.invariant.walk.done
    (rows_below c.args.high.now (pending c.few.next c.few.rest))
    (subst (All P) c.few.invariant.walk.below c.few.invariant.admits)

pub returns-clause-stopped : goal.returns-clause-stopped
returns-clause-stopped g c =
    let walk = c.few.invariant.walk in
    let left = rows_below c.args.high.now (pending c.few.next c.few.rest) in
    IfErr-weaker c.hand_out_many.result _ _ (λ fault stopped. (
      length walk.done + stopped.0,
      stops_after g.V.Visit.takes c.args.visit.now c.few.visit c.hand_out_many.new.visit walk.done
          left [] _ fault stopped.0
          (walk.below ∙ ap (λ rows. walk.done ++ rows) (sym (append-nil left)))
          walk.handed stopped.1,
      capped_more _ _ _ (length walk.done) stopped.0 _ walk.tally stopped.2 (omega arith),
    )) c.hand_out_many.ensures.stopped

pub returns-clause-handed : goal.returns-clause-handed
returns-clause-handed g c =
    let walk = c.few.invariant.walk in
    on_ok_weaker c.hand_out_many.result
    (λ handed. subst
    (λ rows. Handed g.V.Visit.takes c.args.visit.now rows c.hand_out_many.new.visit)
    (sym walk.below)
    (Handed-both g.V.Visit.takes c.args.visit.now c.few.visit c.hand_out_many.new.visit walk.done
    (rows_below c.args.high.now (pending c.few.next c.few.rest)) walk.handed handed))
    c.hand_out_many.ensures.handed
