-- Lists of places, and what AND and OR make of bounds.
use Rattle.std.specs.Prelude.{ℕ, Bool, nat_le, if◌then◌else◌, List, [], ◌∷◌, ◌++◌, length, fold}
use Rattle.std.specs.Prelude.{Option, Some, None, option_to_list}
use Rattle.gm_bounds.specs.declared.bound.Bound.{Bound}
use Rattle.gm_bounds.specs.declared.bound.Bound.TheVariants.{World, Listed}

-- the places in which anything lies
abbrev pub kept : {X : Type 0} → (X → Bool) → List X → List X
kept is_void [] = []
kept is_void (x ∷ xs) = if is_void x then kept is_void xs else x ∷ kept is_void xs

abbrev pub widened : {X : Type 0} → (X → X → X) → Option X → X → X
widened joined None x = x
widened joined (Some held) x = joined held x

-- the least place that holds all, if there are any
abbrev pub hull_of : {X : Type 0} → (X → X → X) → List X → Option X
hull_of joined xs = fold (λ held x. Some (widened joined held x)) None xs

-- the most places of a list
abbrev pub most_places : ℕ
most_places = 8

-- at most so many places, and of more their hull
abbrev pub capped : {X : Type 0} → (X → X → X) → List X → List X
capped joined xs = if nat_le (length xs) most_places then xs else option_to_list (hull_of joined xs)

-- what lies in one place and in each of others
abbrev pub pairs_of : {X : Type 0} → (X → X → X) → (X → Bool) → X → List X → List X
pairs_of met is_void x [] = []
pairs_of met is_void x (y ∷ ys) = kept is_void (met x y ∷ []) ++ pairs_of met is_void x ys

-- the same of each of a list, in its order
abbrev pub pairs : {X : Type 0} → (X → X → X) → (X → Bool) → List X → List X → List X
pairs met is_void [] ys = []
pairs met is_void (x ∷ xs) ys = pairs_of met is_void x ys ++ pairs met is_void xs ys

-- what AND makes of two lists: what lies in both, member by member, or the first list
abbrev pub meeting : {X : Type 0} → Bool → (X → X → X) → (X → Bool) → (X → X → X) → List X
    → List X → List X
meeting in_pairs met is_void joined xs ys =
    if in_pairs then capped joined (pairs met is_void xs ys) else xs

-- what AND makes of two bounds: the world with a list is the list
abbrev pub both : {X : Type 0} → (List X → List X → List X) → Bound X → Bound X → Bound X
both lists World b = b
both lists (Listed xs) World = Listed xs
both lists (Listed xs) (Listed ys) = Listed (lists xs ys)

-- what OR makes of two bounds: the world with a list is the world
abbrev pub either : {X : Type 0} → Bound X → Bound X → Bound X
either World b = World
either (Listed xs) World = World
either (Listed xs) (Listed ys) = Listed (xs ++ ys)

-- the bound with another list
abbrev pub counted : {X : Type 0} → (List X → List X) → Bound X → Bound X
counted lists World = World
counted lists (Listed xs) = Listed (lists xs)

-- the bound of one place
abbrev pub single : {X : Type 0} → (X → Bool) → X → Bound X
single is_void x = Listed (kept is_void (x ∷ []))

-- the bound of a list of places
abbrev pub listed : {X : Type 0} → (X → Bool) → (X → X → X) → List X → Bound X
listed is_void joined xs = Listed (capped joined (kept is_void xs))

abbrev pub anywhere : {X : Type 0} → Bound X
anywhere = World

abbrev pub nowhere : {X : Type 0} → Bound X
nowhere = Listed []
