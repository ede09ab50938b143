-- The types of a store.
use Rattle.std.specs.Prelude.{◌≡◌, ℕ, ◌≤◌, Bool, true, ◌==◌, ◌&&◌, ◌+◌, List, [], ◌∷◌, length}
use Rattle.std.specs.Prelude.{map, position, Option}
use Rattle.gm_types.specs.Specification.{Specification, number_limit}
use Rattle.gm_types.specs.Words.{same_text, are_distinct}

abbrev pub type_names : List Specification → List (List ℕ)
type_names types = map (λ t. t.name) types

-- each has its place as its number
abbrev pub are_numbered : ℕ → List Specification → Bool
are_numbered type_number [] = true
are_numbered type_number (t ∷ types) =
    t.number == type_number && are_numbered (type_number + 1) types

-- types with different names, numbered by their places
pub record AreTypes (types : List Specification) : Type 0 where
  pub numbered : are_numbered 0 types ≡ true
  pub names : are_distinct (type_names types) ≡ true
  pub few : length types ≤ number_limit

-- the number of the type with that name
abbrev pub number_of_name : List Specification → List ℕ → Option ℕ
number_of_name types name = position (λ t. same_text t.name name) types
