-- No spelling begins with a blank.
use Rattle.std.specs.Prelude.{◌≡◌, ℕ, Bool, true, false, ℤ, List, [], ◌∷◌, ◌++◌, Some}
use Rattle.std.proofs.Common.{refl, sym, subst, inl, inr, arith}
use Rattle.std.specs.List.{list_all}
use Rattle.std.proofs.lemmas.Bool.{and_parts}
use Rattle.std.proofs.lemmas.Bool.Decides.{nat_tests}
use Rattle.gm_geom.specs.declared.point.Point.{Point}
use Rattle.gm_geom.specs.Number.{is_number_byte}
use Rattle.gm_base.specs.Ascii.{is_blank}
use Rattle.gm_wkt.specs.Grammar.{coordinate_of, SpellsNumber, SpellsPosition, SpellsList}
use Rattle.gm_wkt.specs.Reader.{SpellsPoint, Starts}

number_is_no_blank : (b : ℕ) → is_number_byte b ≡ true → is_blank b ≡ false
number_is_no_blank b e = grind (arith, nat_tests)

number_then : (bs rest : List ℕ) (z : ℤ) → SpellsNumber bs z → Starts (bs ++ rest)
number_then [] rest z spells = absurd (none spells.value)
  where
    none : coordinate_of [] ≡ Some z → ⊥
    none e = cc
number_then (b ∷ bs) rest z spells =
    number_is_no_blank b
    (and_parts (is_number_byte b) (list_all is_number_byte bs) spells.bytes_of).0

position_starts : (bytes : List ℕ) (p : Point) → SpellsPosition bytes p → Starts bytes
position_starts bytes p s =
    subst (λ t. Starts t) (sym s.written) (number_then s.first (s.gap ++ s.second) p.x s.x)

pub list_starts : {A : Type 0} (Item : List ℕ → A → Type 0) (bytes : List ℕ) (xs : List A)
    → SpellsList Item bytes xs → Starts bytes
list_starts Item bytes xs l = subst (λ t. Starts t) (sym l.2) refl

pub point_starts : (loose : Bool) (bytes : List ℕ) (p : Point)
    → SpellsPoint loose bytes p → Starts bytes
point_starts false bytes p s = position_starts bytes p s
point_starts true bytes p (inl s) = position_starts bytes p s
point_starts true bytes p (inr l) = list_starts SpellsPosition bytes (p ∷ []) l
