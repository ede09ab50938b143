use Rattle.std.proofs.Common.{◌≡◌, [], true, length, refl, sym, ap, subst, ◌∙◌, arith}
use Rattle.std.specs.Prelude.{All}
use Rattle.std.specs.Ordering.{nat_cmp, is_le, is_gt}
use Rattle.std.specs.Cmp.Lexicographic.{slice_cmp}
use Rattle.std.proofs.lemmas.Result.{err_from_is_err_and}
use Rattle.std.proofs.lemmas.Grind.{common_steps}
use Rattle.gm_base.specs.Counter.{capped_sum}
use Rattle.gm_base.specs.Tally.{tally_number}
use Rattle.gm_table.specs.Blocks.{lists_of, rows_of, rows_at}
use Rattle.gm_table.specs.Sorted.{between}
use Rattle.gm_table.specs.Cursor.{rows_after}
use Rattle.gm_table.specs.Visit.{Handed, Stops}
use Rattle.gm_table.proofs.Between.{between-backwards}
use Rattle.gm_table.proofs.Places.{after-is, not_up_to}
use Rattle.gm_table.proofs.BlockWalks.{clear_none, between_is}
use Rattle.gm_table.proofs.blocks.cursor.BlockCursor.scan_ends.Goals as goal

-- no row up to the high end
pub returns-then-is_clear-clause-handed : goal.returns-then-is_clear-clause-handed
returns-then-is_clear-clause-handed g c =
    let all = rows_of (lists_of c.args.blocks.now) in
    let none : between c.args.low.now c.args.high all ≡ [] =
    clear_none c.args.self.now.from c.args.low.now c.args.high all
    (rows_at c.args.self.now.place.block c.args.self.now.place.row c.args.blocks.now)
    c.requires.rising c.requires.at.rows (c.if-is_clear.ensures.from refl)
    (c.if-is_clear.ensures.clear refl) in
    subst (λ rows. Handed g.V.Visit.takes c.args.visit.now rows c.args.visit.now) (sym none) refl

pub returns-then-is_clear-clause-tally : goal.returns-then-is_clear-clause-tally
returns-then-is_clear-clause-tally g c =
    let all = rows_of (lists_of c.args.blocks.now) in
    let none : between c.args.low.now c.args.high all ≡ [] =
    clear_none c.args.self.now.from c.args.low.now c.args.high all
    (rows_at c.args.self.now.place.block c.args.self.now.place.row c.args.blocks.now)
    c.requires.rising c.requires.at.rows (c.if-is_clear.ensures.from refl)
    (c.if-is_clear.ensures.clear refl) in
    omega (arith, c.args.tally.now.fits, ap length none)

-- a span that runs backwards
pub returns-then-not-is_up_to-clause-handed : goal.returns-then-not-is_up_to-clause-handed
returns-then-not-is_up_to-clause-handed g c =
    let gt : is_gt (slice_cmp nat_cmp c.args.low.now c.args.high) ≡ true =
    not_up_to _ (grind (arith, common_steps)) in
    let none : between c.args.low.now c.args.high (rows_of (lists_of c.args.blocks.now)) ≡ [] =
    between-backwards c.args.low.now c.args.high (rows_of (lists_of c.args.blocks.now)) gt in
    subst (λ rows. Handed g.V.Visit.takes c.args.visit.now rows c.args.visit.now) (sym none) refl

pub returns-then-not-is_up_to-clause-tally : goal.returns-then-not-is_up_to-clause-tally
returns-then-not-is_up_to-clause-tally g c =
    let gt : is_gt (slice_cmp nat_cmp c.args.low.now c.args.high) ≡ true =
    not_up_to _ (grind (arith, common_steps)) in
    let none : between c.args.low.now c.args.high (rows_of (lists_of c.args.blocks.now)) ≡ [] =
    between-backwards c.args.low.now c.args.high (rows_of (lists_of c.args.blocks.now)) gt in
    omega (arith, c.args.tally.now.fits, ap length none)

-- ---- from the low end on
pub hand_out_until-requires-clause-place : goal.hand_out_until-requires-clause-place
hand_out_until-requires-clause-place g c = c.reach-place.ensures.place

pub hand_out_until-requires-clause-admits : goal.hand_out_until-requires-clause-admits
hand_out_until-requires-clause-admits g c =
    let P = All (λ row. g.V.Visit.admits c.args.visit.now row.0 row.1) in
    subst P (sym (between_is c.args.low.now c.args.high c.args.high
    (rows_of (lists_of c.args.blocks.now)) _ c.requires.rising refl c.reach-place.ensures.rows))
    c.requires.admits

pub returns-in_err-self-clause-stopped : goal.returns-in_err-self-clause-stopped
returns-in_err-self-clause-stopped g c =
    let same = between_is c.args.low.now c.args.high c.args.high
    (rows_of (lists_of c.args.blocks.now))
    (rows_at c.reach-place.result.block c.reach-place.result.row c.args.blocks.now)
    c.requires.rising refl c.reach-place.ensures.rows in
    let p = err_from_is_err_and c.from_residual.result c.from_residual.ensures.1 in
    let stopped = c.in_err-self.ensures.stopped in
    rw (p.1, p.2) (
      stopped.0,
      subst (λ rows. Stops g.V.Visit.takes c.args.visit.now rows c.in_err-self.field-0.0
          c.hand_out_until.new.visit stopped.0) same stopped.1,
      stopped.2,
    )

pub returns-clause-at : goal.returns-clause-at
returns-clause-at g c =
    let all = rows_of (lists_of c.args.blocks.now) in
    let up : is_le (slice_cmp nat_cmp c.args.low.now c.args.high) ≡ true =
    grind (arith, common_steps) in
    record {
      place = c.in_ok-self.ensures.place;
      rows = c.in_ok-self.ensures.left
          ∙ ap (λ high. rows_after high
          (rows_at c.reach-place.result.block c.reach-place.result.row c.args.blocks.now)) refl
          ∙ ap (rows_after c.args.high) c.reach-place.ensures.rows
          ∙ after-is c.args.low.now c.args.high all up c.requires.rising;
    }

pub returns-clause-handed : goal.returns-clause-handed
returns-clause-handed g c =
    let same = between_is c.args.low.now c.args.high c.args.high
    (rows_of (lists_of c.args.blocks.now))
    (rows_at c.reach-place.result.block c.reach-place.result.row c.args.blocks.now)
    c.requires.rising refl c.reach-place.ensures.rows in
    subst (λ rows. Handed g.V.Visit.takes c.args.visit.now rows c.hand_out_until.new.visit) same
    c.in_ok-self.ensures.handed

pub returns-clause-tally : goal.returns-clause-tally
returns-clause-tally g c =
    let same = between_is c.args.low.now c.args.high c.args.high
    (rows_of (lists_of c.args.blocks.now))
    (rows_at c.reach-place.result.block c.reach-place.result.row c.args.blocks.now)
    c.requires.rising refl c.reach-place.ensures.rows in
    c.in_ok-self.ensures.tally
    ∙ ap (λ rows. capped_sum (tally_number c.args.tally.now) (length rows)) same
