use Rattle.std.proofs.Common.{rules, sym, ◌∙◌, ap, subst}
use Rattle.std.proofs.lemmas.Int.{to_z-of_z}
use mir.Val.{SFits}
use mir.Syntax.{w32, w64}
use Rattle.gm_calendar.specs.Bin.{LiesIn}
use Rattle.gm_keys.specs.Cell.{longitude_cell, latitude_cell, time_cell}
use Rattle.gm_plan.specs.Bins.{offset_in}
use Rattle.gm_plan.proofs.Times.{end_lies}
use Rattle.gm_plan.proofs.windows.window_in.Goals as goal

pub offset_in-last-requires-clause-lies : goal.offset_in-last-requires-clause-lies
offset_in-last-requires-clause-lies c =
    let fits : SFits w64 c.part_in-start.result.1 = search rules in
    subst (λ z. LiesIn c.args.period z c.args.bin_number)
    (sym (to_z-of_z w64 c.part_in-start.result.1 fits ∙ c.part_in-start.ensures.end))
    (end_lies c.args.period c.args.bin_number c.args.interval c.requires.met)

pub returns : goal.returns
returns c =
    let a : SFits w32 c.args.extent.low.x = search rules in
    let b : SFits w32 c.args.extent.low.y = search rules in
    let d : SFits w32 c.args.extent.high.x = search rules in
    let e : SFits w32 c.args.extent.high.y = search rules in
    let from : SFits w64 c.part_in-start.result.0 = search rules in
    let to : SFits w64 c.part_in-start.result.1 = search rules in
    let p = c.longitude_cell.ensures
    ∙ ap (longitude_cell c.args.bits) (to_z-of_z w32 c.args.extent.low.x a) in
    let q = c.latitude_cell.ensures
    ∙ ap (latitude_cell c.args.bits) (to_z-of_z w32 c.args.extent.low.y b) in
    let r = c.longitude_cell-2.ensures
    ∙ ap (longitude_cell c.args.bits) (to_z-of_z w32 c.args.extent.high.x d) in
    let s = c.latitude_cell-2.ensures
    ∙ ap (latitude_cell c.args.bits) (to_z-of_z w32 c.args.extent.high.y e) in
    let u = c.time_cell.ensures
    ∙ ap (time_cell c.args.period c.args.bits)
    (c.offset_in-first.ensures.offset
    ∙ ap (offset_in c.args.period c.args.bin_number)
    (to_z-of_z w64 c.part_in-start.result.0 from ∙ c.part_in-start.ensures.start)) in
    let v = c.time_cell-2.ensures
    ∙ ap (time_cell c.args.period c.args.bits)
    (c.offset_in-last.ensures.offset
    ∙ ap (offset_in c.args.period c.args.bin_number)
    (to_z-of_z w64 c.part_in-start.result.1 to ∙ c.part_in-start.ensures.end)) in
    λ i. record {
      low = record { x = p i; y = q i; t = u i };
      high = record { x = r i; y = s i; t = v i };
    }
