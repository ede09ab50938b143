use Rattle.std.proofs.Common.{true, false, sym}
use Rattle.std.specs.List.{list_all}
use Rattle.gm_types.specs.Fits.{word_fits}
use Rattle.gm_types.specs.Parts.{parts_of}
use Rattle.gm_types.proofs.ReadParts.{all_last, all_next}
use Rattle.gm_types.proofs.fits.words_fit.Goals as goal

pub returns-in-None : goal.returns-in-None
returns-in-None c =
    all_last (word_fits c.args.fits) 44
    (list_all (word_fits c.args.fits) (parts_of 44 c.args.list.now)) c.word_fits.result
    c.parts.rest.now c.parts.invariant c.in-None.ensures.cut c.word_fits.ensures

pub returns-then-not-word_fits : goal.returns-then-not-word_fits
returns-then-not-word_fits c =
    sym (all_next (word_fits c.args.fits) 44
    (list_all (word_fits c.args.fits) (parts_of 44 c.args.list.now)) false
    c.parts.rest.now c.in-Some.part.now c.in-Some.behind.now c.parts.invariant c.in-Some.ensures.cut
    c.if-not-word_fits.ensures)

pub parts-preserved : goal.parts-preserved
parts-preserved c =
    all_next (word_fits c.args.fits) 44
    (list_all (word_fits c.args.fits) (parts_of 44 c.args.list.now)) true
    c.parts.rest.now c.in-Some.part.now c.in-Some.behind.now c.parts.invariant c.in-Some.ensures.cut
    c.if-not-word_fits.ensures
