use Rattle.std.proofs.Common.{◌≡◌, List, ℕ, false, length, refl, sym, ap, subst, ◌∙◌, ◌∷◌, arith}
use Rattle.std.specs.Prelude.{All}
use Rattle.std.specs.Ordering.{nat_cmp, is_le}
use Rattle.std.specs.Cmp.Lexicographic.{slice_cmp}
use Rattle.std.proofs.lemmas.Result.{err_from_is_err_and}
use Rattle.std.proofs.lemmas.Grind.{common_steps}
use Rattle.gm_base.specs.Counter.{capped_sum}
use Rattle.gm_base.specs.Tally.{tally_number}
use Rattle.gm_table.specs.Sorted.{Rows, IsRising, between}
use Rattle.gm_table.specs.Cursor.{pending, rows_from, rows_below, rows_after, IsLastOf}
use Rattle.gm_table.specs.Visit.{Handed, Stops}
use Rattle.gm_table.proofs.Places.{below-is, after-is, last-from, not_reached}
use Rattle.gm_table.proofs.cursor.hand_out_many.Goals as goal

-- the rows from the first on, as far as the high end, are those of a range
ranged : (row : List ℕ × List ℕ) (rest last all : Rows) (high room : List ℕ) → last ≡ row ∷ rest
    → IsLastOf last all → IsRising all → room ≡ high
    → rows_below high last ≡ between row.0 room all
ranged row rest last all high room first is rising same =
    let there = last-from row rest all (subst (λ rows. IsLastOf rows all) first is) rising in
    ap (rows_below high) (first ∙ sym there) ∙ below-is row.0 high all rising
    ∙ ap (λ key. between row.0 key all) (sym same)

pub scan_range-requires : goal.scan_range-requires
scan_range-requires g c =
    let first : pending c.args.place c.args.rest.now
    ≡ (c.in-Some.first.now, c.in-Some.field-0-1.now) ∷ c.args.rest.now =
    ap (λ place. pending place c.args.rest.now) c.in-Some.is in
    subst (All (λ row. g.V.Visit.admits c.args.visit.now row.0 row.1))
    (ranged _ _ _ c.args.map.now.entries c.args.high.now c.holds.new.room first c.requires.last
    c.requires.rising (c.if-not-holds.ensures refl)) c.requires.admits

pub returns-in_err-scan_range-clause-stopped : goal.returns-in_err-scan_range-clause-stopped
returns-in_err-scan_range-clause-stopped g c =
    let first : pending c.args.place c.args.rest.now
    ≡ (c.in-Some.first.now, c.in-Some.field-0-1.now) ∷ c.args.rest.now =
    ap (λ place. pending place c.args.rest.now) c.in-Some.is in
    let same = ranged _ _ _ c.args.map.now.entries c.args.high.now c.holds.new.room first
    c.requires.last c.requires.rising (c.if-not-holds.ensures refl) in
    let p = err_from_is_err_and c.from_residual.result c.from_residual.ensures.1 in
    let stopped = c.in_err-scan_range.ensures.stopped in
    rw (p.1, p.2) (
      stopped.0,
      subst (λ rows. Stops g.V.Visit.takes c.args.visit.now rows c.in_err-scan_range.field-0.0
          c.scan_range.new.visit stopped.0) (sym same) stopped.1,
      stopped.2,
    )

pub returns-clause-after : goal.returns-clause-after
returns-clause-after g c =
    let row : List ℕ × List ℕ = (c.in-Some.first.now, c.in-Some.field-0-1.now) in
    let first : pending c.args.place c.args.rest.now ≡ row ∷ c.args.rest.now =
    ap (λ place. pending place c.args.rest.now) c.in-Some.is in
    let there : rows_from row.0 c.args.map.now.entries ≡ row ∷ c.args.rest.now =
    last-from row c.args.rest.now c.args.map.now.entries
    (subst (λ rows. IsLastOf rows c.args.map.now.entries) first c.requires.last)
    c.requires.rising in
    let away : is_le (slice_cmp nat_cmp c.args.high.now row.0) ≡ false =
    grind (arith, common_steps) in
    c.first_from.ensures ∙ c.way_down.ensures
    ∙ sym (ap (rows_after c.args.high.now) (first ∙ sym there)
    ∙ after-is row.0 c.args.high.now c.args.map.now.entries
    (not_reached c.args.high.now row.0 away) c.requires.rising)

pub returns-clause-handed : goal.returns-clause-handed
returns-clause-handed g c =
    let first : pending c.args.place c.args.rest.now
    ≡ (c.in-Some.first.now, c.in-Some.field-0-1.now) ∷ c.args.rest.now =
    ap (λ place. pending place c.args.rest.now) c.in-Some.is in
    let same = ranged _ _ _ c.args.map.now.entries c.args.high.now c.holds.new.room first
    c.requires.last c.requires.rising (c.if-not-holds.ensures refl) in
    subst (λ rows. Handed g.V.Visit.takes c.args.visit.now rows c.scan_range.new.visit) (sym same)
    c.in_ok-scan_range.ensures.handed

pub returns-clause-tally : goal.returns-clause-tally
returns-clause-tally g c =
    let first : pending c.args.place c.args.rest.now
    ≡ (c.in-Some.first.now, c.in-Some.field-0-1.now) ∷ c.args.rest.now =
    ap (λ place. pending place c.args.rest.now) c.in-Some.is in
    let same = ranged _ _ _ c.args.map.now.entries c.args.high.now c.holds.new.room first
    c.requires.last c.requires.rising (c.if-not-holds.ensures refl) in
    c.in_ok-scan_range.ensures.tally
    ∙ ap (λ rows. capped_sum (tally_number c.args.tally.now) (length rows)) (sym same)
