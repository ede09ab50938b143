use Rattle.std.proofs.Common.{ℕ, Bool, true, false, List, sym, subst}
use Rattle.gm_types.specs.Distinct.{Notes}
use Rattle.gm_types.proofs.Noted.{none_noted, noted_next, noted_twice}
use Rattle.gm_types.proofs.distinct.are_distinct.Goals as goal

pub loop-item-init : goal.loop-item-init
loop-item-init g c = none_noted c.new-seen.result c.new-seen.ensures.empty

pub returns-then-not-branch : goal.returns-then-not-branch
returns-then-not-branch g c =
    sym (noted_twice g.T.Keyed.key_of c.args.items.now c.loop-item.item-index
    c.item-item.result c.loop-item.seen c.note.new.seen c.loop-item-test.true c.item-item.is
    c.loop-item.invariant
    (subst (λ (t : List ℕ). Notes c.loop-item.seen c.note.new.seen t false) c.key_bytes.ensures
    (subst (λ (b : Bool). Notes c.loop-item.seen c.note.new.seen c.key_bytes.result.now b)
    c.if-not-branch.true c.in_ok-note.ensures)))

pub loop-item-preserved : goal.loop-item-preserved
loop-item-preserved g c =
    noted_next g.T.Keyed.key_of c.args.items.now c.loop-item.item-index
    c.item-item.result c.loop-item.seen c.note.new.seen c.loop-item-test.true c.item-item.is
    c.loop-item.invariant
    (subst (λ (t : List ℕ). Notes c.loop-item.seen c.note.new.seen t true) c.key_bytes.ensures
    (subst (λ (b : Bool). Notes c.loop-item.seen c.note.new.seen c.key_bytes.result.now b)
    c.if-not-branch.false c.in_ok-note.ensures))
