use Rattle.std.proofs.Common.{◌≡◌, length}
use Rattle.std.specs.List.{list_all}
use Rattle.gm_types.specs.Fits.{word_fits}
use Rattle.gm_types.specs.Parts.{parts_of}
use Rattle.gm_types.proofs.fits.words_fit.Given as goal

abbrev pub invariant-parts : goal.invariant-parts
invariant-parts l =
    list_all (word_fits l.fits) (parts_of 44 l.list)
    ≡ list_all (word_fits l.fits) (parts_of 44 l.rest)

abbrev pub decreases-parts : goal.decreases-parts
decreases-parts l = length l.rest
