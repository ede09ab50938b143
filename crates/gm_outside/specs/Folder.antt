-- What the calls of a folder do.
use Rattle.std.specs.Prelude.{◌≡◌, ◌⊎◌, ℕ, List}
use Rattle.std.specs.Option.{ForSome}
use Rattle.std.specs.Ordering.{nat_cmp}
use Rattle.std.specs.Cmp.Lexicographic.{slice_cmp}
use Rattle.std.specs.FinMap as files

-- names with their bytes
abbrev pub Files : Type 0
Files = files.FinMap (slice_cmp nat_cmp) (List ℕ)

-- the bytes of a name have gone to another
abbrev pub Renamed : List ℕ → List ℕ → Files → Files → Type 0
Renamed from to old new =
    ForSome (files.get old from) (λ bytes. new ≡ files.insert (files.remove old from) to bytes)

-- a name has gone
abbrev pub Removed : List ℕ → Files → Files → Type 0
Removed name old new = new ≡ files.remove old name

-- what was to be done was done, or nothing was
abbrev pub OldOr : (Files → Type 0) → Files → Files → Type 0
OldOr Done old new = (new ≡ old) ⊎ Done new
