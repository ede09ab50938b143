use Rattle.std.proofs.Common.{◌≡◌, ◌-◌, ◌++◌, length, ap, ◌∙◌, arith}
use Rattle.std.proofs.lemmas.Grind.{common_steps}
use Rattle.gm_program.proofs.Cutting.{cut-held, take-room}
use Rattle.gm_program.proofs.serve.hold.Goals as goal

pub returns-in-Ok : goal.returns-in-Ok
returns-in-Ok c = λ start is.
    let room : c.saturating_sub-room.result ≡ 1048577 - length c.args.held.now.items =
    grind (arith, common_steps) in
    c.in-Ok.ensures.items
    ∙ ap (λ xs. c.args.held.now.items ++ xs)
    (take-room c.min.result c.saturating_sub-room.result
    (1048577 - length c.args.held.now.items) c.args.part.now c.min.ensures room)
    ∙ cut-held start c.args.held.now.items c.args.part.now is
