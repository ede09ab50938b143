use Rattle.std.proofs.Common.{◌≡◌, Some, refl, sym, ap, subst, ◌∙◌}
use Rattle.std.specs.Prelude.{if◌then◌else◌}
use Rattle.std.specs.BTreeMap.{is_at}
use Rattle.std.specs.Cmp.Lexicographic.{slice_cmp}
use Rattle.std.specs.Option.{option_copied_mut, IsSome}
use Rattle.std.specs.Ordering.{nat_cmp}
use Rattle.gm_table.specs.Sorted.{at_key}
use Rattle.gm_table.proofs.Keys.{turned}
use Rattle.gm_table.proofs.changes.put_one.Goals as goal

-- a row of the key was there
pub returns-in-Some-clause-ok : goal.returns-in-Some-clause-ok
returns-in-Some-clause-ok c = λ key.
    let found : at_key c.args.put.now.key c.args.map.now.entries ≡ Some c.in-Some.place.now =
    sym c.get_mut.ensures.value ∙ ap option_copied_mut c.in-Some.is in
    rw (turned key c.args.put.now.key, ← c.in_ok-bytes.ensures, ← c.replace.ensures.after)
    (((c.get_mut.follows.holds c.replace.new.dest).3 (subst IsSome (sym found) refl)).0 key)

-- none was there
pub returns-clause-ok : goal.returns-clause-ok
returns-clause-ok c = λ key.
    rw (turned key c.args.put.now.key, ← c.in_ok-key.ensures, ← c.in_ok-bytes.ensures)
    (c.in_ok-old.ensures.updates.0 key
    ∙ ap (λ before. if is_at (slice_cmp nat_cmp c.in_ok-key.key) key then Some c.in_ok-bytes.bytes
    else at_key key before.entries) c.get_mut.follows.holds-at-none)
