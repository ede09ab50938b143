-- The front of bytes of which the last was raised.
use Rattle.std.specs.Prelude.{ℕ, ◌==◌, List, Option, Some, None, take, if◌then◌else◌}

-- so many of the bytes, and none where there are none of them
abbrev pub up_to : ℕ → List ℕ → Option (List ℕ)
up_to count bytes = if count == 0 then None else Some (take count bytes)
