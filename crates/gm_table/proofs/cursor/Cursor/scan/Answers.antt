use Rattle.std.proofs.Common.{◌≡◌, [], true, length, refl, sym, ap, subst, ◌∙◌, arith}
use Rattle.std.specs.Prelude.{All}
use Rattle.std.specs.Ordering.{nat_cmp, is_le, is_gt}
use Rattle.std.specs.Cmp.Lexicographic.{slice_cmp}
use Rattle.std.proofs.lemmas.Result.{err_from_is_err_and}
use Rattle.std.proofs.lemmas.Grind.{common_steps}
use Rattle.gm_base.proofs.Numbers.{le_of_not_gt}
use Rattle.gm_base.specs.Counter.{capped_sum}
use Rattle.gm_base.specs.Tally.{tally_number}
use Rattle.gm_table.specs.Sorted.{between}
use Rattle.gm_table.specs.Cursor.{pending, rows_below, rows_after, IsLastOf}
use Rattle.gm_table.specs.Visit.{Handed, Stops}
use Rattle.gm_table.proofs.Between.{between-backwards}
use Rattle.gm_table.proofs.Places.{below-is, after-is, clear-none, from-last}
use Rattle.gm_table.proofs.cursor.Cursor.scan.Goals as goal

-- no row up to the high end
pub returns-then-is_clear-clause-handed : goal.returns-then-is_clear-clause-handed
returns-then-is_clear-clause-handed g c =
    let none : between c.args.low.now c.args.high.now c.args.map.now.entries ≡ [] =
    clear-none c.args.self.now.from.now c.args.low.now c.args.high.now c.args.map.now.entries
    c.args.self.now.place c.args.self.now.rest c.requires.rising c.requires.at
    (c.if-is_clear.ensures.from refl) (c.if-is_clear.ensures.clear refl) in
    subst (λ rows. Handed g.V.Visit.takes c.args.visit.now rows c.args.visit.now) (sym none) refl

pub returns-then-is_clear-clause-tally : goal.returns-then-is_clear-clause-tally
returns-then-is_clear-clause-tally g c =
    let none : between c.args.low.now c.args.high.now c.args.map.now.entries ≡ [] =
    clear-none c.args.self.now.from.now c.args.low.now c.args.high.now c.args.map.now.entries
    c.args.self.now.place c.args.self.now.rest c.requires.rising c.requires.at
    (c.if-is_clear.ensures.from refl) (c.if-is_clear.ensures.clear refl) in
    omega (arith, c.args.tally.now.fits, ap length none)

-- a span that runs backwards
pub returns-then-is_gt-clause-handed : goal.returns-then-is_gt-clause-handed
returns-then-is_gt-clause-handed g c =
    let gt : is_gt (slice_cmp nat_cmp c.args.low.now c.args.high.now) ≡ true =
    grind (arith, common_steps) in
    let none : between c.args.low.now c.args.high.now c.args.map.now.entries ≡ [] =
    between-backwards c.args.low.now c.args.high.now c.args.map.now.entries gt in
    subst (λ rows. Handed g.V.Visit.takes c.args.visit.now rows c.args.visit.now) (sym none) refl

pub returns-then-is_gt-clause-tally : goal.returns-then-is_gt-clause-tally
returns-then-is_gt-clause-tally g c =
    let gt : is_gt (slice_cmp nat_cmp c.args.low.now c.args.high.now) ≡ true =
    grind (arith, common_steps) in
    let none : between c.args.low.now c.args.high.now c.args.map.now.entries ≡ [] =
    between-backwards c.args.low.now c.args.high.now c.args.map.now.entries gt in
    omega (arith, c.args.tally.now.fits, ap length none)

-- ---- from the low end on
pub hand_out-requires-clause-last : goal.hand_out-requires-clause-last
hand_out-requires-clause-last g c =
    subst (λ rows. IsLastOf rows c.args.map.now.entries) (sym c.reach.ensures)
    (from-last c.args.low.now c.args.map.now.entries c.requires.rising)

pub hand_out-requires-clause-admits : goal.hand_out-requires-clause-admits
hand_out-requires-clause-admits g c =
    let same : rows_below c.args.high.now (pending c.reach.new.self.place c.reach.new.self.rest)
    ≡ between c.args.low.now c.args.high.now c.args.map.now.entries =
    ap (rows_below c.args.high.now) c.reach.ensures
    ∙ below-is c.args.low.now c.args.high.now c.args.map.now.entries c.requires.rising in
    subst (All (λ row. g.V.Visit.admits c.args.visit.now row.0 row.1)) (sym same) c.requires.admits

pub returns-in_err-self-clause-stopped : goal.returns-in_err-self-clause-stopped
returns-in_err-self-clause-stopped g c =
    let same : rows_below c.args.high.now (pending c.reach.new.self.place c.reach.new.self.rest)
    ≡ between c.args.low.now c.args.high.now c.args.map.now.entries =
    ap (rows_below c.args.high.now) c.reach.ensures
    ∙ below-is c.args.low.now c.args.high.now c.args.map.now.entries c.requires.rising in
    let p = err_from_is_err_and c.from_residual.result c.from_residual.ensures.1 in
    let stopped = c.in_err-self.ensures.stopped in
    rw (p.1, p.2) (
      stopped.0,
      subst (λ rows. Stops g.V.Visit.takes c.args.visit.now rows c.in_err-self.field-0.0
          c.hand_out.new.visit stopped.0) same stopped.1,
      stopped.2,
    )

pub returns-clause-at : goal.returns-clause-at
returns-clause-at g c =
    let up : is_le (slice_cmp nat_cmp c.args.low.now c.args.high.now) ≡ true =
    le_of_not_gt _ (grind (arith, common_steps)) in
    c.in_ok-self.ensures.after ∙ ap (rows_after c.args.high.now) c.reach.ensures
    ∙ after-is c.args.low.now c.args.high.now c.args.map.now.entries up c.requires.rising

pub returns-clause-handed : goal.returns-clause-handed
returns-clause-handed g c =
    let same : rows_below c.args.high.now (pending c.reach.new.self.place c.reach.new.self.rest)
    ≡ between c.args.low.now c.args.high.now c.args.map.now.entries =
    ap (rows_below c.args.high.now) c.reach.ensures
    ∙ below-is c.args.low.now c.args.high.now c.args.map.now.entries c.requires.rising in
    subst (λ rows. Handed g.V.Visit.takes c.args.visit.now rows c.hand_out.new.visit) same
    c.in_ok-self.ensures.handed

pub returns-clause-tally : goal.returns-clause-tally
returns-clause-tally g c =
    let same : rows_below c.args.high.now (pending c.reach.new.self.place c.reach.new.self.rest)
    ≡ between c.args.low.now c.args.high.now c.args.map.now.entries =
    ap (rows_below c.args.high.now) c.reach.ensures
    ∙ below-is c.args.low.now c.args.high.now c.args.map.now.entries c.requires.rising in
    c.in_ok-self.ensures.tally
    ∙ ap (λ rows. capped_sum (tally_number c.args.tally.now) (length rows)) same
