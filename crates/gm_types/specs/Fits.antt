-- Which indexes fit, as it is kept while a specification is read.
use Rattle.std.specs.Prelude.{◌≡◌, ℕ, Bool, ◌&&◌, ◌||◌, List, codes}
use Rattle.std.specs.List.{list_any}
use Rattle.gm_types.specs.declared.fits.Fits.{Fits}
use Rattle.gm_types.specs.declared.index.IndexKind.TheVariants.{Z2, Z3, Xz2, Xz3}
use Rattle.gm_types.specs.Index.{fits_index}
use Rattle.gm_types.specs.Specification.{Specification}
use Rattle.gm_types.specs.Words.{same_text}

pub record AreFits (t : Specification) (fits : Fits) : Type 0 where
  pub z2 : fits.z2 ≡ fits_index t Z2
  pub z3 : fits.z3 ≡ fits_index t Z3
  pub xz2 : fits.xz2 ≡ fits_index t Xz2
  pub xz3 : fits.xz3 ≡ fits_index t Xz3
  pub by_attribute : fits.by_attribute ≡ list_any (λ a. a.indexed) t.attributes

-- the word of an index that fits
abbrev pub word_fits : Fits → List ℕ → Bool
word_fits fits word =
    same_text word (codes "id")
    || (same_text word (codes "z2") && fits.z2)
    || (same_text word (codes "z3") && fits.z3)
    || (same_text word (codes "xz2") && fits.xz2)
    || (same_text word (codes "xz3") && fits.xz3)
    || (same_text word (codes "attr") && fits.by_attribute)
