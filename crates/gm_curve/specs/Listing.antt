-- The listing of sequences, and the place of each.
use Rattle.std.specs.Prelude.{ℕ, zero, suc, ◌+◌, ◌*◌, ◌^◌, ◌<◌, ◌≤◌, List, [], ◌∷◌, ◌++◌, map}
use Rattle.std.specs.Prelude.{length, All, nat_eq, if◌then◌else◌}
use Rattle.std.specs.Cmp.Lexicographic.{pointwise}

-- the sequences with each number below m put before them, in order
abbrev pub prefixed : ℕ → List (List ℕ) → List (List ℕ)
prefixed zero rest = []
prefixed (suc m) rest = prefixed m rest ++ map (λ path. m ∷ path) rest

-- the sequences of at most g numbers under 2^D: the empty one, followed, for q from 0, by the
-- listing for g - 1 with q put before each member
abbrev pub listing : ℕ → ℕ → List (List ℕ)
listing D zero = [] ∷ []
listing D (suc g) = [] ∷ prefixed (2 ^ D) (listing D g)

-- how many there are
abbrev pub sequence_count : ℕ → ℕ → ℕ
sequence_count D zero = 1
sequence_count D (suc g) = 1 + 2 ^ D * sequence_count D g

-- at most g numbers, each under 2^D
pub record IsSequence (D g : ℕ) (path : List ℕ) : Type 0 where
  pub short : length path ≤ g
  pub members : All (λ q. q < 2 ^ D) path

-- the first place at which a sequence stands in a list, from 0, or the list's length
abbrev pub place_in : List (List ℕ) → List ℕ → ℕ
place_in [] path = 0
place_in (s ∷ rest) path = if pointwise nat_eq s path then 0 else suc (place_in rest path)
