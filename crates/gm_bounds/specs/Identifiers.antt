-- The identifiers of a filter, in byte order, each once.
use Rattle.std.specs.Prelude.{ℕ, Bool, List, [], ◌∷◌, filter}
use Rattle.std.specs.List.{list_any}
use Rattle.std.specs.List.Sorted.{IsStrictlySortedBy}
use Rattle.std.specs.Ordering.{nat_cmp}
use Rattle.std.specs.declared.cmp.Ordering.{Ordering}
use Rattle.std.specs.declared.cmp.Ordering.TheVariants.{Less, Equal, Greater}
use Rattle.std.specs.Cmp.Lexicographic.{slice_cmp}
use Rattle.std.specs.Str.{bytes_eq}
use Rattle.gm_base.specs.Identifier.{is_identifier}
use Rattle.gm_filter.specs.Tree.{Tree, ids}
use Rattle.gm_bounds.specs.declared.bound.Bound.{Bound}
use Rattle.gm_bounds.specs.declared.bound.Bound.TheVariants.{World, Listed}
use Rattle.gm_bounds.specs.Bound.{Rules, bound_of}
use Rattle.gm_bounds.specs.Lists.{counted}

-- among the identifiers
abbrev pub is_among : List (List ℕ) → List ℕ → Bool
is_among listed id = list_any (bytes_eq id) listed

-- in byte order, each once
abbrev pub IsRising : List (List ℕ) → Type 0
IsRising listed = IsStrictlySortedBy (slice_cmp nat_cmp) listed

abbrev pub put_by : Ordering → List ℕ → List ℕ → List (List ℕ) → List (List ℕ) → List (List ℕ)
put_by Less x y ys more = x ∷ y ∷ ys
put_by Equal x y ys more = y ∷ ys
put_by Greater x y ys more = y ∷ more

-- an identifier in its place, if it is not there
abbrev pub put : List ℕ → List (List ℕ) → List (List ℕ)
put x [] = x ∷ []
put x (y ∷ ys) = put_by (slice_cmp nat_cmp x y) x y ys (put x ys)

-- all of them in byte order, each once
abbrev pub sorted_once : List (List ℕ) → List (List ℕ)
sorted_once [] = []
sorted_once (x ∷ xs) = put x (sorted_once xs)

-- those of the one list that are in the other
abbrev pub common : List (List ℕ) → List (List ℕ) → List (List ℕ)
common xs ys = filter (is_among ys) xs

-- the text, if it is an identifier
abbrev pub if_identifier : List ℕ → List (List ℕ)
if_identifier text = filter is_identifier (text ∷ [])

abbrev pub sorted_bound : Bound (List ℕ) → Bound (List ℕ)
sorted_bound found = counted sorted_once found

-- of a test: those of its texts that are identifiers
abbrev pub id_test : Tree → Bound (List ℕ)
id_test (ids texts) = Listed (sorted_once (filter is_identifier texts))
id_test _ = World

-- identifiers have no hull
abbrev pub id_rules : Rules (List ℕ)
id_rules = record { test = id_test; met = common; counted = sorted_once }

abbrev pub ids_of : Tree → Bound (List ℕ)
ids_of t = bound_of id_rules t

abbrev pub IsRisingBound : Bound (List ℕ) → Type 0
IsRisingBound World = Unit {0}
IsRisingBound (Listed xs) = IsRising xs
