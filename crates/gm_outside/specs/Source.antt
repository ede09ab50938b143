-- What a source gives.
use Rattle.std.specs.Prelude.{◌≡◌, ℕ, List, [], ◌++◌, Option, Some}

-- of these bytes the first were given and the others are left; none is given only at the end
pub record Gives (bytes given : List ℕ) (left : Option (List ℕ)) : Type 0 where
  pub rest : List ℕ
  pub parts : bytes ≡ given ++ rest
  pub stays : left ≡ Some rest
  pub end : given ≡ [] → bytes ≡ []
