use Rattle.std.proofs.Common.{ℕ, ◌∙◌, arith, length-take, length-drop, eq-eqb, ne_eqb}
use Rattle.gm_filter.proofs.Steps.{at_end, at_underscore, at_same_byte, at_other_byte, passed_none}
use Rattle.gm_filter.proofs.Steps.{passed_more, reached}
use Rattle.gm_filter.proofs.wildcards.Run.of.Goals as goal

pub loop-pattern-init : goal.loop-pattern-init
loop-pattern-init c = passed_none _ _

pub returns-then-wanted-eq37 : goal.returns-then-wanted-eq37
returns-then-wanted-eq37 c =
    reached _ _ c.loop-pattern.pattern.now c.loop-pattern.text.now c.loop-pattern.invariant
    c.in-len1-up.len_at_least c.if-wanted-eq37.true

pub returns-in_default-text : goal.returns-in_default-text
returns-in_default-text c =
    at_end c.loop-pattern.pattern.now c.loop-pattern.text.now c.in-len1-up.len_at_least
    c.if-wanted-eq37.false c.in_default-text.len_below ∙ c.loop-pattern.invariant.same

pub returns-else-first-wanted : goal.returns-else-first-wanted
returns-else-first-wanted c =
    at_other_byte c.loop-pattern.pattern.now c.loop-pattern.text.now (
      c.in-len1-up.len_at_least,
      c.in-len1-up-text.len_at_least,
      c.if-wanted-eq37.false,
      c.if-wanted-eq95.false,
    ) c.if-first-wanted.false ∙ c.loop-pattern.invariant.same

pub loop-pattern-preserved-then-wanted-eq95 : goal.loop-pattern-preserved-then-wanted-eq95
loop-pattern-preserved-then-wanted-eq95 c =
    passed_more _ _ c.loop-pattern.pattern.now c.loop-pattern.text.now _ c.loop-pattern.invariant
    c.in-len1-up.len_at_least c.if-wanted-eq37.false
    (rw (eq-eqb _ 95 c.if-wanted-eq95.true) c.past_continuation-text.ensures.value)
    (omega (
      arith,
      c.past_continuation-text.ensures.shorter,
      length-take {A = ℕ},
      length-drop {A = ℕ},
    ))
    (rw c.past_continuation-text.ensures.value
    (at_underscore c.loop-pattern.pattern.now c.loop-pattern.text.now c.in-len1-up.len_at_least
    c.in-len1-up-text.len_at_least c.if-wanted-eq95.true))

pub loop-pattern-preserved : goal.loop-pattern-preserved
loop-pattern-preserved c =
    passed_more _ _ c.loop-pattern.pattern.now c.loop-pattern.text.now _ c.loop-pattern.invariant
    c.in-len1-up.len_at_least c.if-wanted-eq37.false (rw (ne_eqb _ 95 c.if-wanted-eq95.false))
    (omega (arith, length-take {A = ℕ}, length-drop {A = ℕ}))
    (at_same_byte c.loop-pattern.pattern.now c.loop-pattern.text.now (
      c.in-len1-up.len_at_least,
      c.in-len1-up-text.len_at_least,
      c.if-wanted-eq37.false,
      c.if-wanted-eq95.false,
    ) c.if-first-wanted.true)
