use Rattle.std.proofs.Common.{◌≡◌, None, Some, refl, sym, ap, subst, ◌∙◌}
use Rattle.std.specs.Option.{option_copied_mut, IsSome}
use Rattle.gm_table.specs.Sorted.{at_key}
use Rattle.gm_table.proofs.Keys.{turned}
use Rattle.gm_table.proofs.Undoing.{restored_at-there, restored_at-absent}
use Rattle.gm_table.proofs.changes.restore.Goals as goal

pub returns-in-None-clause-restored : goal.returns-in-None-clause-restored
returns-in-None-clause-restored c =
    λ other. rw (turned other c.args.key.now, c.in-None.is) (c.remove.ensures.updates.0 other)

pub returns-in-Some-get_mut-clause-restored : goal.returns-in-Some-get_mut-clause-restored
returns-in-Some-get_mut-clause-restored c = λ other.
    let found : at_key c.args.key.now c.args.map.now.entries ≡ Some c.in-Some-get_mut.place.now =
    sym c.get_mut.ensures.value ∙ ap option_copied_mut c.in-Some-get_mut.is in
    rw (
      c.in-Some.is,
      ← restored_at-there other c.args.key.now c.in-Some.bytes _ _ found,
      turned other c.args.key.now,
    )
    (((c.get_mut.follows.holds c.in-Some.bytes).3 (subst IsSome (sym found) refl)).0 other)

-- the key was not there
pub returns-in_default-clause-restored : goal.returns-in_default-clause-restored
returns-in_default-clause-restored c = λ other.
    let none : at_key c.args.key.now c.args.map.now.entries ≡ None =
    sym c.get_mut.ensures.value ∙ ap option_copied_mut c.in_default.is in
    rw (c.in-Some.is, c.get_mut.follows.holds-at-none)
    (restored_at-absent other c.args.key.now c.in-Some.bytes c.args.map.now.entries none)
