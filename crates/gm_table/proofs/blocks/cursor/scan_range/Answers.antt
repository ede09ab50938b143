use Rattle.std.proofs.Common.{length, refl, sym, ap, subst, ◌∙◌}
use Rattle.std.specs.Prelude.{All}
use Rattle.std.proofs.lemmas.Result.{err_from_is_err_and}
use Rattle.gm_base.specs.Counter.{capped_sum}
use Rattle.gm_base.specs.Tally.{tally_number}
use Rattle.gm_table.specs.Blocks.{lists_of, rows_of, rows_at}
use Rattle.gm_table.specs.Visit.{Handed, Stops}
use Rattle.gm_table.proofs.BlockWalks.{between_is}
use Rattle.gm_table.proofs.blocks.cursor.scan_range.Goals as goal

pub hand_out_until-requires-clause-place : goal.hand_out_until-requires-clause-place
hand_out_until-requires-clause-place g c = c.place_from-place.ensures.place

pub hand_out_until-requires-clause-admits : goal.hand_out_until-requires-clause-admits
hand_out_until-requires-clause-admits g c =
    let P = All (λ row. g.V.Visit.admits c.args.visit.now row.0 row.1) in
    subst P (sym (between_is c.args.low.now c.args.high.now c.args.high.now
    (rows_of (lists_of c.args.blocks.now)) _ c.requires.rising refl
    c.place_from-place.ensures.rows)) c.requires.admits

pub returns-in_err-_end-clause-stopped : goal.returns-in_err-_end-clause-stopped
returns-in_err-_end-clause-stopped g c =
    let same = between_is c.args.low.now c.args.high.now c.args.high.now
    (rows_of (lists_of c.args.blocks.now))
    (rows_at c.place_from-place.result.block c.place_from-place.result.row
    c.args.blocks.now) c.requires.rising refl c.place_from-place.ensures.rows in
    let p = err_from_is_err_and c.from_residual.result c.from_residual.ensures.1 in
    let stopped = c.in_err-_end.ensures.stopped in
    rw (p.1, p.2) (
      stopped.0,
      subst (λ rows. Stops g.V.Visit.takes c.args.visit.now rows c.in_err-_end.field-0.0
          c.hand_out_until.new.visit stopped.0) same stopped.1,
      stopped.2,
    )

pub returns-clause-handed : goal.returns-clause-handed
returns-clause-handed g c =
    let same = between_is c.args.low.now c.args.high.now c.args.high.now
    (rows_of (lists_of c.args.blocks.now))
    (rows_at c.place_from-place.result.block c.place_from-place.result.row
    c.args.blocks.now) c.requires.rising refl c.place_from-place.ensures.rows in
    subst (λ rows. Handed g.V.Visit.takes c.args.visit.now rows c.hand_out_until.new.visit) same
    c.in_ok-_end.ensures.handed

pub returns-clause-tally : goal.returns-clause-tally
returns-clause-tally g c =
    let same = between_is c.args.low.now c.args.high.now c.args.high.now
    (rows_of (lists_of c.args.blocks.now))
    (rows_at c.place_from-place.result.block c.place_from-place.result.row
    c.args.blocks.now) c.requires.rising refl c.place_from-place.ensures.rows in
    c.in_ok-_end.ensures.tally
    ∙ ap (λ rows. capped_sum (tally_number c.args.tally.now) (length rows)) same
