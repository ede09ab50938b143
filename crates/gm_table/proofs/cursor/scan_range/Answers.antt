use Rattle.std.proofs.Common.{length, [], ◌≡◌, ℕ, ◌+◌, List, ◌∷◌, ◌++◌, map, refl, sym, ap, subst}
use Rattle.std.proofs.Common.{arith}
use Rattle.std.specs.Prelude.{Ok, Err, All}
use Rattle.std.proofs.lemmas.Result.{err_from_is_err_and}
use Rattle.std.specs.Map.Iter.{deref_pair}
use Rattle.std.proofs.lemmas.Map.Iter.{rest_more}
use Rattle.std.proofs.lemmas.Grind.{common_steps}
use Rattle.std.proofs.lemmas.List.Elements.{All-weaker}
use Rattle.gm_table.specs.Sorted.{between}
use Rattle.gm_table.specs.Visit.{Handed}
use Rattle.gm_table.proofs.Between.{between-backwards}
use Rattle.gm_table.proofs.Handing.{Handed-more, rows_more, one_of}
use Rattle.gm_table.proofs.cursor.scan_range.Goals as goal

-- a range that runs backwards
pub returns-then-is_gt-clause-handed : goal.returns-then-is_gt-clause-handed
returns-then-is_gt-clause-handed g c =
    let none : between c.args.low.now c.args.high.now c.args.map.now.entries ≡ [] =
    between-backwards c.args.low.now c.args.high.now c.args.map.now.entries
    (grind (arith, common_steps)) in
    subst (λ rows. Handed g.V.Visit.takes c.args.visit.now rows c.args.visit.now) (sym none) refl

pub returns-then-is_gt-clause-tally : goal.returns-then-is_gt-clause-tally
returns-then-is_gt-clause-tally g c =
    let none : between c.args.low.now c.args.high.now c.args.map.now.entries ≡ [] =
    between-backwards c.args.low.now c.args.high.now c.args.map.now.entries
    (grind (arith, common_steps)) in
    omega (arith, c.args.tally.now.fits, ap length none)

pub loop-key-preserved : goal.loop-key-preserved
loop-key-preserved g c =
    let shown : c.loop-key.key-iterator
    ≡ (c.in-Some.key.now, c.in-Some.bytes.now) ∷ c.next.new.self =
    rest_more deref_pair _ _ _ _ c.in-Some.is c.next.ensures.steps in
    let took : g.V.Visit.takes c.loop-key.visit c.in-Some.key.now c.in-Some.bytes.now (Ok tt)
    c.row.new.self =
    rw (← c.as_slice.ensures, ← c.as_slice-in-loop-key.ensures) c.in_ok-row.ensures in
    let P = λ (row : List ℕ × List ℕ). g.V.Visit.admits c.loop-key.visit row.0 row.1 in
    let Q = λ (row : List ℕ × List ℕ). g.V.Visit.admits c.row.new.self row.0 row.1 in
    let whole : map deref_pair c.loop-key.yielded
    ++ (c.in-Some.key.now, c.in-Some.bytes.now) ∷ c.next.new.self
    ≡ between c.args.low.now c.args.high.now c.args.map.now.entries =
    subst (λ rest. map deref_pair c.loop-key.yielded ++ rest
    ≡ between c.args.low.now c.args.high.now c.args.map.now.entries) shown
    c.loop-key.invariant.rows in
    let here : P (c.in-Some.key.now, c.in-Some.bytes.now) =
    one_of P (map deref_pair c.loop-key.yielded) (c.in-Some.key.now, c.in-Some.bytes.now)
    c.next.new.self (subst (All P) (sym whole) c.loop-key.invariant.admits) in
    record {
      rows = rows_more deref_pair c.loop-key.yielded (c.in-Some.key, c.in-Some.bytes)
          c.loop-key.key-iterator c.next.new.self
          (between c.args.low.now c.args.high.now c.args.map.now.entries)
          c.loop-key.invariant.rows shown;
      handed = Handed-more g.V.Visit.takes deref_pair c.args.visit.now c.loop-key.visit
          c.row.new.self c.loop-key.yielded (c.in-Some.key, c.in-Some.bytes)
          c.loop-key.invariant.handed took;
      tally = grind (arith, common_steps);
      admits = All-weaker P Q (λ row may. g.met.V.Visit.keeps _ _ _ _ _ _ _ here took may) _
          c.loop-key.invariant.admits;
    }

-- the visitor had no memory
pub returns-in_err-row : goal.returns-in_err-row
returns-in_err-row g c =
    let shown : c.loop-key.key-iterator
    ≡ (c.in-Some.key.now, c.in-Some.bytes.now) ∷ c.next.new.self =
    rest_more deref_pair _ _ _ _ c.in-Some.is c.next.ensures.steps in
    let refused : g.V.Visit.takes c.loop-key.visit c.in-Some.key.now c.in-Some.bytes.now
    (Err c.in_err-row.field-0.0) c.row.new.self =
    rw (← c.as_slice.ensures, ← c.as_slice-in-loop-key.ensures) c.in_err-row.ensures in
    let p = err_from_is_err_and c.from_residual.result c.from_residual.ensures.1 in
    rw (p.1, p.2) (record {
      handed = tt;
      tally = tt;
      stopped = (
        length c.loop-key.yielded + 1,
        record {
          front = map deref_pair c.loop-key.yielded;
          refused = (c.in-Some.key.now, c.in-Some.bytes.now);
          rest = c.next.new.self;
          parts = sym (subst
              (λ rest. map deref_pair c.loop-key.yielded ++ rest
              ≡ between c.args.low.now c.args.high.now c.args.map.now.entries) shown
              c.loop-key.invariant.rows);
          mid = c.loop-key.visit;
          taken = c.loop-key.invariant.handed;
          answer = refused;
          count = grind (arith, common_steps);
        },
        grind (arith, common_steps),
      );
    })
