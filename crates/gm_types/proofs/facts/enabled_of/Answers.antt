use Rattle.std.proofs.Common.{true, false, sym}
use Rattle.std.specs.Prelude.{codes}
use Rattle.std.specs.Option.{option_copied}
use Rattle.gm_types.specs.declared.index.IndexKind.TheVariants.{Z2, Z3, Xz2, Xz3}
use Rattle.gm_types.specs.Index.{fits_index}
use Rattle.gm_types.specs.Outline.{outlined}
use Rattle.gm_types.proofs.Told.{list_same, enabled_if, listed_if}
use Rattle.gm_types.proofs.facts.enabled_of.Goals as goal

pub returns-then-not-words_are_fit : goal.returns-then-not-words_are_fit
returns-then-not-words_are_fit c =
    sym (list_same (outlined c.args.outline.now) c.fits_of-fits.result
    (option_copied c.setting-list.result)
    c.fits_of-fits.ensures c.setting-list.ensures false c.if-not-words_are_fit.ensures)

pub returns : goal.returns
returns c = let t = outlined c.args.outline.now in let list =
    option_copied c.setting-list.result in (
      sym (list_same t c.fits_of-fits.result list c.fits_of-fits.ensures c.setting-list.ensures true
          c.if-not-words_are_fit.ensures),
      record {
        z2 = enabled_if t list (codes "z2") c.fits_of-fits.result.z2 (fits_index t Z2) _
            c.setting-list.ensures c.fits_of-fits.ensures.z2 c.is_enabled.ensures;
        z3 = enabled_if t list (codes "z3") c.fits_of-fits.result.z3 (fits_index t Z3) _
            c.setting-list.ensures c.fits_of-fits.ensures.z3 c.is_enabled-2.ensures;
        xz2 = enabled_if t list (codes "xz2") c.fits_of-fits.result.xz2 (fits_index t Xz2) _
            c.setting-list.ensures c.fits_of-fits.ensures.xz2 c.is_enabled-3.ensures;
        xz3 = enabled_if t list (codes "xz3") c.fits_of-fits.result.xz3 (fits_index t Xz3) _
            c.setting-list.ensures c.fits_of-fits.ensures.xz3 c.is_enabled-4.ensures;
        by_attribute = listed_if t list (codes "attr") _ c.setting-list.ensures c.is_listed.ensures;
      },
    )
