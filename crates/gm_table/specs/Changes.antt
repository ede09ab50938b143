-- What a key has when puts are taken back.
use Rattle.std.specs.Prelude.{ℕ, List, [], ◌∷◌, Option, Some, None, if◌then◌else◌}
use Rattle.std.specs.Ordering.{nat_cmp}
use Rattle.std.specs.Cmp.Lexicographic.{slice_cmp}
use Rattle.std.specs.BTreeMap.{is_at}
use Rattle.gm_table.specs.declared.row.Row.{Row}

-- what the key that had `old` before a put, and has `now`, is given back
abbrev pub given_back : Option (List ℕ) → Option (List ℕ) → Option (List ℕ)
given_back None now = None
given_back (Some bytes) None = None
given_back (Some bytes) (Some other) = Some bytes

-- what `other` has once `key` was given back what it had
abbrev pub restored_at : List ℕ → List ℕ → Option (List ℕ) → Option (List ℕ) → Option (List ℕ)
restored_at other key old now =
    if is_at (slice_cmp nat_cmp other) key then given_back old now else now

-- what a key has once these puts were taken back, the last first: the list `olds` has what the key
-- of each put had
abbrev pub undone_at : List ℕ → List Row → List (Option (List ℕ)) → Option (List ℕ)
    → Option (List ℕ)
undone_at key puts [] now = now
undone_at key [] (old ∷ olds) now = now
undone_at key (put ∷ puts) (old ∷ olds) now =
    restored_at key put.key old (undone_at key puts olds now)
