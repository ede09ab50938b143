use Rattle.std.proofs.Common.{ℕ, List, subst}
use Rattle.gm_types.specs.Distinct.{Notes}
use Rattle.gm_types.proofs.Noted.{note_added}
use Rattle.gm_types.proofs.distinct.note.Goals as goal

pub returns : goal.returns
returns c = subst (λ (t : List ℕ). Notes c.args.seen.now c.insert.new.self t c.in_ok-insert.field-0)
    c.in_ok-text.ensures
    (note_added c.args.seen.now c.insert.new.self c.in_ok-text.text c.in_ok-insert.field-0
    c.in_ok-insert.ensures.added
    c.in_ok-insert.ensures.updates.0)
