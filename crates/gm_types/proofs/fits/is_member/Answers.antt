use Rattle.std.proofs.Common.{true, false, sym}
use Rattle.gm_types.specs.Index.{is_member}
use Rattle.gm_types.specs.Words.{same_text}
use Rattle.gm_types.proofs.ReadParts.{any_last, any_next}
use Rattle.gm_types.proofs.fits.is_member.Goals as goal

pub returns-in-None : goal.returns-in-None
returns-in-None c =
    any_last (same_text c.args.word.now) 44 (is_member c.args.word.now c.args.list.now)
    c.is_word.result
    c.parts.rest.now c.parts.invariant c.in-None.ensures.cut c.is_word.ensures

pub returns-then-is_word : goal.returns-then-is_word
returns-then-is_word c =
    sym (any_next (same_text c.args.word.now) 44 (is_member c.args.word.now c.args.list.now) true
    c.parts.rest.now c.in-Some.part.now c.in-Some.behind.now c.parts.invariant c.in-Some.ensures.cut
    c.if-is_word.ensures)

pub parts-preserved : goal.parts-preserved
parts-preserved c =
    any_next (same_text c.args.word.now) 44 (is_member c.args.word.now c.args.list.now) false
    c.parts.rest.now c.in-Some.part.now c.in-Some.behind.now c.parts.invariant c.in-Some.ensures.cut
    c.if-is_word.ensures
