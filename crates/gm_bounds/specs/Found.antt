-- What is found in a bound.
use Rattle.std.specs.Prelude.{◌≡◌, Bool, true}
use Rattle.std.specs.List.{list_any}
use Rattle.gm_bounds.specs.declared.bound.Bound.{Bound}
use Rattle.gm_bounds.specs.declared.bound.Bound.TheVariants.{World, Listed}

-- in the world always, and in a list where one of the list passes
abbrev pub IsFound : {X : Type 0} → (X → Bool) → Bound X → Type 0
IsFound test World = Unit {0}
IsFound test (Listed xs) = list_any test xs ≡ true
