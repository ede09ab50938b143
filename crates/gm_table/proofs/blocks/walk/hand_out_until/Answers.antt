use Rattle.std.proofs.Common.{◌≡◌, ◌+◌, ◌++◌, ◌<◌, ◌≤◌, ℕ, List, length, drop, get_or, refl, sym}
use Rattle.std.proofs.Common.{ap, subst, ◌∙◌, arith, length-drop}
use Rattle.std.specs.Prelude.{All}
use Rattle.std.proofs.lemmas.Result.{err_from_is_err_and}
use Rattle.std.proofs.lemmas.List.Elements.{All-weaker}
use Rattle.gm_base.specs.Counter.{capped_sum}
use Rattle.gm_base.specs.Tally.{tally_number}
use Rattle.gm_table.specs.Blocks.{pairs_of, rows_at}
use Rattle.gm_table.specs.Cursor.{rows_below, rows_after}
use Rattle.gm_table.specs.Sorted.{IsRising}
use Rattle.gm_table.specs.Visit.{Handed, Stops}
use Rattle.gm_table.proofs.Spans.{All-middle, admits_after, stops_after, capped_more}
use Rattle.gm_table.proofs.BlockPlaces.{block_rises, rising_drop}
use Rattle.gm_table.proofs.BlockWalks.{place_bound, place_at, block_rows, Ends, ends_within}
use Rattle.gm_table.proofs.BlockWalks.{ends_last, next_block, Walk-rows, none_left, walked_out}
use Rattle.gm_table.proofs.BlockWalks.{exit}
use Rattle.gm_table.proofs.blocks.walk.hand_out_until.Goals as goal

pub rest_of-rest-requires : goal.rest_of-rest-requires
rest_of-rest-requires g c =
    let row = c.walk.at.row in
    subst (λ rows. row ≤ length rows) (sym c.as_slice.ensures)
    (place_bound c.args.blocks.now c.walk.at.block row c.index-blocks-at.result
    c.walk.invariant.place c.walk-test.true)

pub hand_out_before-requires-clause-rising : goal.hand_out_before-requires-clause-rising
hand_out_before-requires-clause-rising g c =
    let row = c.walk.at.row in
    let rows = (get_or c.args.blocks.now c.walk.at.block c.index-blocks-at.result).rows in
    let rest_is : c.rest_of-rest.result.now ≡ drop row rows =
    c.rest_of-rest.ensures ∙ ap (drop row) c.as_slice.ensures in
    subst (λ xs. IsRising (pairs_of xs)) (sym rest_is)
    (rising_drop rows row
    (block_rises c.args.blocks.now c.requires.rising c.walk.at.block
    c.index-blocks-at.result c.walk-test.true))

pub hand_out_before-requires-clause-admits : goal.hand_out_before-requires-clause-admits
hand_out_before-requires-clause-admits g c =
    let high = c.args.high.now in
    let row = c.walk.at.row in
    let rows = (get_or c.args.blocks.now c.walk.at.block c.index-blocks-at.result).rows in
    let rest_is : c.rest_of-rest.result.now ≡ drop row rows =
    c.rest_of-rest.ensures ∙ ap (drop row) c.as_slice.ensures in
    let P = λ (r : List ℕ × List ℕ). g.V.Visit.admits c.walk.visit r.0 r.1 in
    let done = c.walk.invariant.walk.done in
    let parts = block_rows high c.args.blocks.now c.walk.at.block row c.index-blocks-at.result
    c.walk-test.true in
    let all = rows_below high (rows_at c.args.from.block c.args.from.row c.args.blocks.now) in
    let each : All P (rows_below high (pairs_of (drop row rows))) =
    All-middle P done (rows_below high (pairs_of (drop row rows))) parts.later all
    (c.walk.invariant.walk.below ∙ ap (λ xs. done ++ xs) parts.whole) c.walk.invariant.admits in
    subst (λ xs. All P (rows_below high (pairs_of xs))) (sym rest_is) each

-- the visitor had no memory
pub returns-in_err-count-clause-stopped : goal.returns-in_err-count-clause-stopped
returns-in_err-count-clause-stopped g c =
    let high = c.args.high.now in
    let row = c.walk.at.row in
    let rows = (get_or c.args.blocks.now c.walk.at.block c.index-blocks-at.result).rows in
    let rest_is : c.rest_of-rest.result.now ≡ drop row rows =
    c.rest_of-rest.ensures ∙ ap (drop row) c.as_slice.ensures in
    let walk = c.walk.invariant.walk in
    let here = rows_below high (pairs_of (drop row rows)) in
    let parts = block_rows high c.args.blocks.now c.walk.at.block row c.index-blocks-at.result
    c.walk-test.true in
    let all = rows_below high (rows_at c.args.from.block c.args.from.row c.args.blocks.now) in
    let p = err_from_is_err_and c.from_residual.result c.from_residual.ensures.1 in
    let stopped = c.in_err-count.ensures.stopped in
    rw (p.1, p.2) (
      length walk.done + stopped.0,
      stops_after g.V.Visit.takes c.args.visit.now c.walk.visit c.hand_out_before.new.visit
          walk.done here parts.later all c.in_err-count.field-0.0 stopped.0
          (walk.below ∙ ap (λ xs. walk.done ++ xs) parts.whole) walk.handed
          (subst (λ xs. Stops g.V.Visit.takes c.walk.visit (rows_below high (pairs_of xs))
          c.in_err-count.field-0.0 c.hand_out_before.new.visit stopped.0) rest_is stopped.1),
      capped_more _ _ _ (length walk.done) stopped.0 _ walk.tally stopped.2 (omega arith),
    )

pub returns-then-count-rest-clause-place : goal.returns-then-count-rest-clause-place
returns-then-count-rest-clause-place g c =
    let blocks = c.args.blocks.now in
    let high = c.args.high.now in
    let n = c.walk.at.block in
    let row = c.walk.at.row in
    let count = c.in_ok-count.count in
    let block = c.index-blocks-at.result in
    let rows = (get_or blocks n block).rows in
    let rest_is : c.rest_of-rest.result.now ≡ drop row rows =
    c.rest_of-rest.ensures ∙ ap (drop row) c.as_slice.ensures in
    let from : pairs_of (drop count (drop row rows)) ≡ rows_after high (pairs_of (drop row rows)) =
    subst (λ xs. pairs_of (drop count xs) ≡ rows_after high (pairs_of xs)) rest_is
    c.in_ok-count.ensures.from in
    let ends : Ends high blocks n row (row + count) rows =
    ends_within high blocks n row count (row + count) block c.walk-test.true refl
    (omega (arith, c.if-count-rest.true, ap length rest_is, length-drop row rows)) from in
    (exit g.V.Visit.takes c.args.visit.now c.walk.visit c.hand_out_before.new.visit high blocks
    (rows_at c.args.from.block c.args.from.row blocks) n row (row + count) rows
    c.rest_of-rest.result.now
    (tally_number c.args.tally.now) (tally_number c.walk.tally)
    (tally_number c.hand_out_before.new.tally) rest_is ends c.in_ok-count.ensures.handed
    c.in_ok-count.ensures.tally c.walk.invariant.walk).place

pub returns-then-count-rest-clause-left : goal.returns-then-count-rest-clause-left
returns-then-count-rest-clause-left g c =
    let blocks = c.args.blocks.now in
    let high = c.args.high.now in
    let n = c.walk.at.block in
    let row = c.walk.at.row in
    let count = c.in_ok-count.count in
    let block = c.index-blocks-at.result in
    let rows = (get_or blocks n block).rows in
    let rest_is : c.rest_of-rest.result.now ≡ drop row rows =
    c.rest_of-rest.ensures ∙ ap (drop row) c.as_slice.ensures in
    let from : pairs_of (drop count (drop row rows)) ≡ rows_after high (pairs_of (drop row rows)) =
    subst (λ xs. pairs_of (drop count xs) ≡ rows_after high (pairs_of xs)) rest_is
    c.in_ok-count.ensures.from in
    let ends : Ends high blocks n row (row + count) rows =
    ends_within high blocks n row count (row + count) block c.walk-test.true refl
    (omega (arith, c.if-count-rest.true, ap length rest_is, length-drop row rows)) from in
    (exit g.V.Visit.takes c.args.visit.now c.walk.visit c.hand_out_before.new.visit high blocks
    (rows_at c.args.from.block c.args.from.row blocks) n row (row + count) rows
    c.rest_of-rest.result.now
    (tally_number c.args.tally.now) (tally_number c.walk.tally)
    (tally_number c.hand_out_before.new.tally) rest_is ends c.in_ok-count.ensures.handed
    c.in_ok-count.ensures.tally c.walk.invariant.walk).left

pub returns-then-count-rest-clause-handed : goal.returns-then-count-rest-clause-handed
returns-then-count-rest-clause-handed g c =
    let blocks = c.args.blocks.now in
    let high = c.args.high.now in
    let n = c.walk.at.block in
    let row = c.walk.at.row in
    let count = c.in_ok-count.count in
    let block = c.index-blocks-at.result in
    let rows = (get_or blocks n block).rows in
    let rest_is : c.rest_of-rest.result.now ≡ drop row rows =
    c.rest_of-rest.ensures ∙ ap (drop row) c.as_slice.ensures in
    let from : pairs_of (drop count (drop row rows)) ≡ rows_after high (pairs_of (drop row rows)) =
    subst (λ xs. pairs_of (drop count xs) ≡ rows_after high (pairs_of xs)) rest_is
    c.in_ok-count.ensures.from in
    let ends : Ends high blocks n row (row + count) rows =
    ends_within high blocks n row count (row + count) block c.walk-test.true refl
    (omega (arith, c.if-count-rest.true, ap length rest_is, length-drop row rows)) from in
    (exit g.V.Visit.takes c.args.visit.now c.walk.visit c.hand_out_before.new.visit high blocks
    (rows_at c.args.from.block c.args.from.row blocks) n row (row + count) rows
    c.rest_of-rest.result.now
    (tally_number c.args.tally.now) (tally_number c.walk.tally)
    (tally_number c.hand_out_before.new.tally) rest_is ends c.in_ok-count.ensures.handed
    c.in_ok-count.ensures.tally c.walk.invariant.walk).walk.handed

pub returns-then-count-rest-clause-tally : goal.returns-then-count-rest-clause-tally
returns-then-count-rest-clause-tally g c =
    let blocks = c.args.blocks.now in
    let high = c.args.high.now in
    let n = c.walk.at.block in
    let row = c.walk.at.row in
    let count = c.in_ok-count.count in
    let block = c.index-blocks-at.result in
    let rows = (get_or blocks n block).rows in
    let rest_is : c.rest_of-rest.result.now ≡ drop row rows =
    c.rest_of-rest.ensures ∙ ap (drop row) c.as_slice.ensures in
    let from : pairs_of (drop count (drop row rows)) ≡ rows_after high (pairs_of (drop row rows)) =
    subst (λ xs. pairs_of (drop count xs) ≡ rows_after high (pairs_of xs)) rest_is
    c.in_ok-count.ensures.from in
    let ends : Ends high blocks n row (row + count) rows =
    ends_within high blocks n row count (row + count) block c.walk-test.true refl
    (omega (arith, c.if-count-rest.true, ap length rest_is, length-drop row rows)) from in
    (exit g.V.Visit.takes c.args.visit.now c.walk.visit c.hand_out_before.new.visit high blocks
    (rows_at c.args.from.block c.args.from.row blocks) n row (row + count) rows
    c.rest_of-rest.result.now
    (tally_number c.args.tally.now) (tally_number c.walk.tally)
    (tally_number c.hand_out_before.new.tally) rest_is ends c.in_ok-count.ensures.handed
    c.in_ok-count.ensures.tally c.walk.invariant.walk).walk.tally

pub returns-then-end-blocks-clause-place : goal.returns-then-end-blocks-clause-place
returns-then-end-blocks-clause-place g c =
    let blocks = c.args.blocks.now in
    let high = c.args.high.now in
    let n = c.walk.at.block in
    let row = c.walk.at.row in
    let count = c.in_ok-count.count in
    let block = c.index-blocks-at.result in
    let rows = (get_or blocks n block).rows in
    let rest_is : c.rest_of-rest.result.now ≡ drop row rows =
    c.rest_of-rest.ensures ∙ ap (drop row) c.as_slice.ensures in
    let from : pairs_of (drop count (drop row rows)) ≡ rows_after high (pairs_of (drop row rows)) =
    subst (λ xs. pairs_of (drop count xs) ≡ rows_after high (pairs_of xs)) rest_is
    c.in_ok-count.ensures.from in
    let ends : Ends high blocks n row (row + count) rows =
    ends_last high blocks n row count (row + count) block c.walk-test.true refl
    (omega (
      arith,
      c.in_ok-count.ensures.bound,
      ap length rest_is,
      length-drop row rows,
      place_bound blocks n row block c.walk.invariant.place c.walk-test.true,
    ))
    (omega (arith, c.if-end-blocks.true)) from in
    (exit g.V.Visit.takes c.args.visit.now c.walk.visit c.hand_out_before.new.visit high blocks
    (rows_at c.args.from.block c.args.from.row blocks) n row (row + count) rows
    c.rest_of-rest.result.now
    (tally_number c.args.tally.now) (tally_number c.walk.tally)
    (tally_number c.hand_out_before.new.tally) rest_is ends c.in_ok-count.ensures.handed
    c.in_ok-count.ensures.tally c.walk.invariant.walk).place

pub returns-then-end-blocks-clause-left : goal.returns-then-end-blocks-clause-left
returns-then-end-blocks-clause-left g c =
    let blocks = c.args.blocks.now in
    let high = c.args.high.now in
    let n = c.walk.at.block in
    let row = c.walk.at.row in
    let count = c.in_ok-count.count in
    let block = c.index-blocks-at.result in
    let rows = (get_or blocks n block).rows in
    let rest_is : c.rest_of-rest.result.now ≡ drop row rows =
    c.rest_of-rest.ensures ∙ ap (drop row) c.as_slice.ensures in
    let from : pairs_of (drop count (drop row rows)) ≡ rows_after high (pairs_of (drop row rows)) =
    subst (λ xs. pairs_of (drop count xs) ≡ rows_after high (pairs_of xs)) rest_is
    c.in_ok-count.ensures.from in
    let ends : Ends high blocks n row (row + count) rows =
    ends_last high blocks n row count (row + count) block c.walk-test.true refl
    (omega (
      arith,
      c.in_ok-count.ensures.bound,
      ap length rest_is,
      length-drop row rows,
      place_bound blocks n row block c.walk.invariant.place c.walk-test.true,
    ))
    (omega (arith, c.if-end-blocks.true)) from in
    (exit g.V.Visit.takes c.args.visit.now c.walk.visit c.hand_out_before.new.visit high blocks
    (rows_at c.args.from.block c.args.from.row blocks) n row (row + count) rows
    c.rest_of-rest.result.now
    (tally_number c.args.tally.now) (tally_number c.walk.tally)
    (tally_number c.hand_out_before.new.tally) rest_is ends c.in_ok-count.ensures.handed
    c.in_ok-count.ensures.tally c.walk.invariant.walk).left

pub returns-then-end-blocks-clause-handed : goal.returns-then-end-blocks-clause-handed
returns-then-end-blocks-clause-handed g c =
    let blocks = c.args.blocks.now in
    let high = c.args.high.now in
    let n = c.walk.at.block in
    let row = c.walk.at.row in
    let count = c.in_ok-count.count in
    let block = c.index-blocks-at.result in
    let rows = (get_or blocks n block).rows in
    let rest_is : c.rest_of-rest.result.now ≡ drop row rows =
    c.rest_of-rest.ensures ∙ ap (drop row) c.as_slice.ensures in
    let from : pairs_of (drop count (drop row rows)) ≡ rows_after high (pairs_of (drop row rows)) =
    subst (λ xs. pairs_of (drop count xs) ≡ rows_after high (pairs_of xs)) rest_is
    c.in_ok-count.ensures.from in
    let ends : Ends high blocks n row (row + count) rows =
    ends_last high blocks n row count (row + count) block c.walk-test.true refl
    (omega (
      arith,
      c.in_ok-count.ensures.bound,
      ap length rest_is,
      length-drop row rows,
      place_bound blocks n row block c.walk.invariant.place c.walk-test.true,
    ))
    (omega (arith, c.if-end-blocks.true)) from in
    (exit g.V.Visit.takes c.args.visit.now c.walk.visit c.hand_out_before.new.visit high blocks
    (rows_at c.args.from.block c.args.from.row blocks) n row (row + count) rows
    c.rest_of-rest.result.now
    (tally_number c.args.tally.now) (tally_number c.walk.tally)
    (tally_number c.hand_out_before.new.tally) rest_is ends c.in_ok-count.ensures.handed
    c.in_ok-count.ensures.tally c.walk.invariant.walk).walk.handed

pub returns-then-end-blocks-clause-tally : goal.returns-then-end-blocks-clause-tally
returns-then-end-blocks-clause-tally g c =
    let blocks = c.args.blocks.now in
    let high = c.args.high.now in
    let n = c.walk.at.block in
    let row = c.walk.at.row in
    let count = c.in_ok-count.count in
    let block = c.index-blocks-at.result in
    let rows = (get_or blocks n block).rows in
    let rest_is : c.rest_of-rest.result.now ≡ drop row rows =
    c.rest_of-rest.ensures ∙ ap (drop row) c.as_slice.ensures in
    let from : pairs_of (drop count (drop row rows)) ≡ rows_after high (pairs_of (drop row rows)) =
    subst (λ xs. pairs_of (drop count xs) ≡ rows_after high (pairs_of xs)) rest_is
    c.in_ok-count.ensures.from in
    let ends : Ends high blocks n row (row + count) rows =
    ends_last high blocks n row count (row + count) block c.walk-test.true refl
    (omega (
      arith,
      c.in_ok-count.ensures.bound,
      ap length rest_is,
      length-drop row rows,
      place_bound blocks n row block c.walk.invariant.place c.walk-test.true,
    ))
    (omega (arith, c.if-end-blocks.true)) from in
    (exit g.V.Visit.takes c.args.visit.now c.walk.visit c.hand_out_before.new.visit high blocks
    (rows_at c.args.from.block c.args.from.row blocks) n row (row + count) rows
    c.rest_of-rest.result.now
    (tally_number c.args.tally.now) (tally_number c.walk.tally)
    (tally_number c.hand_out_before.new.tally) rest_is ends c.in_ok-count.ensures.handed
    c.in_ok-count.ensures.tally c.walk.invariant.walk).walk.tally

pub walk-preserved : goal.walk-preserved
walk-preserved g c =
    let blocks = c.args.blocks.now in
    let high = c.args.high.now in
    let n = c.walk.at.block in
    let row = c.walk.at.row in
    let count = c.in_ok-count.count in
    let block = c.index-blocks-at.result in
    let rows = (get_or blocks n block).rows in
    let all = rows_at c.args.from.block c.args.from.row blocks in
    let here = rows_below high (pairs_of (drop row rows)) in
    let later = c.hand_out_before.new.visit in
    let within : n + 1 < length blocks = omega (arith, c.walk-test.true, c.if-end-blocks.false) in
    let rest_is : c.rest_of-rest.result.now ≡ drop row rows =
    c.rest_of-rest.ensures ∙ ap (drop row) c.as_slice.ensures in
    let from : pairs_of (drop count (drop row rows)) ≡ rows_after high (pairs_of (drop row rows)) =
    subst (λ xs. pairs_of (drop count xs) ≡ rows_after high (pairs_of xs)) rest_is
    c.in_ok-count.ensures.from in
    let handed : Handed g.V.Visit.takes c.walk.visit here later =
    subst (λ xs. Handed g.V.Visit.takes c.walk.visit (rows_below high (pairs_of xs)) later)
    rest_is c.in_ok-count.ensures.handed in
    let raised : tally_number c.hand_out_before.new.tally
    ≡ capped_sum (tally_number c.walk.tally) (length here) =
    subst (λ xs. tally_number c.hand_out_before.new.tally
    ≡ capped_sum (tally_number c.walk.tally) (length (rows_below high (pairs_of xs)))) rest_is
    c.in_ok-count.ensures.tally in
    let cut = next_block high blocks n (n + 1) row count block (omega arith) within
    (omega (arith, c.if-count-rest.false, ap length rest_is)) from in
    let P = λ (r : List ℕ × List ℕ). g.V.Visit.admits c.walk.visit r.0 r.1 in
    let Q = λ (r : List ℕ × List ℕ). g.V.Visit.admits later r.0 r.1 in
    let walk = c.walk.invariant.walk in
    let parts = block_rows high blocks n row block c.walk-test.true in
    let each : All P here =
    All-middle P walk.done here parts.later (rows_below high all)
    (walk.below ∙ ap (λ xs. walk.done ++ xs) parts.whole) c.walk.invariant.admits in
    record {
      place = place_at blocks (n + 1) 0 block within (omega arith);
      walk = Walk-rows g.V.Visit.takes c.args.visit.now c.walk.visit later high all
          (rows_at n row blocks) (pairs_of (drop row rows)) (rows_at (n + 1) 0 blocks)
          (tally_number c.args.tally.now) (tally_number c.walk.tally)
          (tally_number c.hand_out_before.new.tally) cut handed raised walk;
      admits = All-weaker P Q
          (λ r may. admits_after g.V.Visit.admits g.V.Visit.takes g.met.V.Visit.keeps c.walk.visit
          later here handed each r.0 r.1 may) (rows_below high all) c.walk.invariant.admits;
    }

pub returns-clause-left : goal.returns-clause-left
returns-clause-left g c =
    let none = none_left c.args.blocks.now c.walk.at.block c.walk.at.row c.walk.invariant.place
    c.walk-test.false in
    none ∙ sym (c.walk.invariant.walk.after ∙ ap (rows_after c.args.high.now) none)

pub returns-clause-handed : goal.returns-clause-handed
returns-clause-handed g c =
    (walked_out g.V.Visit.takes c.args.visit.now c.walk.visit c.args.high.now
    (rows_at c.args.from.block c.args.from.row c.args.blocks.now)
    (rows_at c.walk.at.block c.walk.at.row c.args.blocks.now)
    (tally_number c.args.tally.now) (tally_number c.walk.tally)
    (none_left c.args.blocks.now c.walk.at.block c.walk.at.row
    c.walk.invariant.place c.walk-test.false) c.walk.invariant.walk).handed

pub returns-clause-tally : goal.returns-clause-tally
returns-clause-tally g c =
    (walked_out g.V.Visit.takes c.args.visit.now c.walk.visit c.args.high.now
    (rows_at c.args.from.block c.args.from.row c.args.blocks.now)
    (rows_at c.walk.at.block c.walk.at.row c.args.blocks.now)
    (tally_number c.args.tally.now) (tally_number c.walk.tally)
    (none_left c.args.blocks.now c.walk.at.block c.walk.at.row
    c.walk.invariant.place c.walk-test.false) c.walk.invariant.walk).tally
