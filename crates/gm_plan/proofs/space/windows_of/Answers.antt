use Rattle.std.proofs.Common.{◌≤◌, length, sym, subst}
use Rattle.gm_plan.proofs.FewWindows.{few_windows}
use Rattle.gm_plan.proofs.space.windows_of.Goals as goal

pub returns-clause-few : goal.returns-clause-few
returns-clause-few c =
    subst (λ xs. length xs ≤ 64) (sym c.in_ok-windows.ensures)
    (few_windows c.args.extents.now.period c.args.extents.now.bits c.args.extents.now.boxes.now
    c.args.extents.now.intervals.now c.args.bin_number c.requires.few_boxes
    c.requires.few_intervals)
