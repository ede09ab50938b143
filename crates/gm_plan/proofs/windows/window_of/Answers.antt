use Rattle.std.proofs.Common.{rules, ◌∙◌, ap}
use Rattle.std.proofs.lemmas.Int.{to_z-of_z}
use mir.Val.{SFits}
use mir.Syntax.{w32}
use Rattle.gm_keys.specs.Cell.{longitude_cell, latitude_cell}
use Rattle.gm_plan.proofs.windows.window_of.Goals as goal

pub returns : goal.returns
returns c =
    let a : SFits w32 c.args.extent.low.x = search rules in
    let b : SFits w32 c.args.extent.low.y = search rules in
    let d : SFits w32 c.args.extent.high.x = search rules in
    let e : SFits w32 c.args.extent.high.y = search rules in
    let p = c.longitude_cell.ensures
    ∙ ap (longitude_cell c.args.bits) (to_z-of_z w32 c.args.extent.low.x a) in
    let q = c.latitude_cell.ensures
    ∙ ap (latitude_cell c.args.bits) (to_z-of_z w32 c.args.extent.low.y b) in
    let r = c.longitude_cell-2.ensures
    ∙ ap (longitude_cell c.args.bits) (to_z-of_z w32 c.args.extent.high.x d) in
    let s = c.latitude_cell-2.ensures
    ∙ ap (latitude_cell c.args.bits) (to_z-of_z w32 c.args.extent.high.y e) in
    λ i. record {
      low = record { x = p i; y = q i; t = 0 };
      high = record { x = r i; y = s i; t = 0 };
    }
