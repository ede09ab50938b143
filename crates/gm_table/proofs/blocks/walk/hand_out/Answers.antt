use Rattle.std.proofs.Common.{◌+◌, suc, ℕ, List, length, [], ◌∷◌, take, drop, refl, sym, ap, subst}
use Rattle.std.proofs.Common.{arith, length-append}
use Rattle.std.specs.Prelude.{Ok, Err, All}
use Rattle.std.proofs.lemmas.Result.{err_from_is_err_and}
use Rattle.std.proofs.lemmas.List.{length-map}
use Rattle.std.proofs.lemmas.List.Elements.{All-weaker}
use Rattle.gm_table.specs.Blocks.{pair_of, pairs_of}
use Rattle.gm_table.specs.Visit.{Handed}
use Rattle.gm_table.proofs.Handing.{Handed-more, one_of}
use Rattle.gm_table.proofs.BlockWalks.{cut_at, one_more}
use Rattle.gm_table.proofs.blocks.walk.hand_out.Goals as goal

pub row-requires : goal.row-requires
row-requires g c =
    let row = c.row-item.result in
    let rows = c.args.rows.now in
    let i = c.loop-row.row-index in
    let P = λ (r : List ℕ × List ℕ). g.V.Visit.admits c.loop-row.visit r.0 r.1 in
    let here : P (pair_of row) =
    one_of P (pairs_of (take i rows)) (pair_of row) (pairs_of (drop (suc i) rows))
    (subst (All P) (cut_at rows i row c.loop-row-test.true c.row-item.is)
    c.loop-row.invariant.admits) in
    subst (λ key. g.V.Visit.admits c.loop-row.visit key c.as_slice-in-loop-row.result.now)
    (sym c.as_slice.ensures)
    (subst (λ bytes. g.V.Visit.admits c.loop-row.visit row.key bytes)
    (sym c.as_slice-in-loop-row.ensures) here)

pub loop-row-preserved : goal.loop-row-preserved
loop-row-preserved g c =
    let row = c.row-item.result in
    let rows = c.args.rows.now in
    let i = c.loop-row.row-index in
    let P = λ (r : List ℕ × List ℕ). g.V.Visit.admits c.loop-row.visit r.0 r.1 in
    let Q = λ (r : List ℕ × List ℕ). g.V.Visit.admits c.row.new.self r.0 r.1 in
    let here : P (pair_of row) =
    one_of P (pairs_of (take i rows)) (pair_of row) (pairs_of (drop (suc i) rows))
    (subst (All P) (cut_at rows i row c.loop-row-test.true c.row-item.is)
    c.loop-row.invariant.admits) in
    let took : g.V.Visit.takes c.loop-row.visit row.key row.bytes (Ok tt) c.row.new.self =
    rw (← c.as_slice.ensures, ← c.as_slice-in-loop-row.ensures) c.in_ok-row.ensures in
    let more = one_more rows i row c.loop-row-test.true c.row-item.is in
    record {
      handed = subst
          (λ some. Handed g.V.Visit.takes c.args.visit.now (pairs_of some) c.row.new.self)
          (sym more)
          (Handed-more g.V.Visit.takes pair_of c.args.visit.now c.loop-row.visit c.row.new.self
          (take i rows) row c.loop-row.invariant.handed took);
      tally = omega (
        arith,
        c.add.ensures,
        c.loop-row.invariant.tally,
        ap length more,
        length-append (take i rows) (row ∷ []),
      );
      admits = All-weaker P Q (λ r may. g.met.V.Visit.keeps _ _ _ _ _ _ _ here took may)
          (pairs_of rows) c.loop-row.invariant.admits;
    }

-- the visitor had no memory
pub returns-in_err-row : goal.returns-in_err-row
returns-in_err-row g c =
    let row = c.row-item.result in
    let rows = c.args.rows.now in
    let i = c.loop-row.row-index in
    let refused : g.V.Visit.takes c.loop-row.visit row.key row.bytes (Err c.in_err-row.field-0.0)
    c.row.new.self =
    rw (← c.as_slice.ensures, ← c.as_slice-in-loop-row.ensures) c.in_err-row.ensures in
    let p = err_from_is_err_and c.from_residual.result c.from_residual.ensures.1 in
    rw (p.1, p.2) (record {
      handed = tt;
      tally = tt;
      stopped = (
        length (pairs_of (take i rows)) + 1,
        record {
          front = pairs_of (take i rows);
          refused = pair_of row;
          rest = pairs_of (drop (suc i) rows);
          parts = cut_at rows i row c.loop-row-test.true c.row-item.is;
          mid = c.loop-row.visit;
          taken = c.loop-row.invariant.handed;
          answer = refused;
          count = refl;
        },
        omega (arith, c.add.ensures, c.loop-row.invariant.tally, length-map (take i rows) pair_of),
      );
    })
