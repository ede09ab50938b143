-- What the answer of a reader says of what is to be read.
use Rattle.std.specs.Prelude.{◌≡◌, List, [], ◌∷◌, ◌++◌, Option, Some, None, Result, Ok, Err}
use Rattle.gm_types.specs.declared.halt.Halt.{Halt}
use Rattle.gm_types.specs.declared.halt.Halt.TheVariants as halt

-- it is read, or there is nothing to read, or there was no memory
abbrev pub Reads : {A : Type 0} → Option A → Result A Halt → Type 0
Reads wanted (Ok x) = wanted ≡ Some x
Reads wanted (Err halt.Broken) = wanted ≡ None
Reads wanted (Err halt.NoMemory) = Unit {0}

-- it is read and stands at the end of a list, or the same
abbrev pub Adds : {A : Type 0} → Option A → List A → List A → Result (Unit {0}) Halt → Type 0
Adds {A} wanted before after (Ok _) = (x : A) × (wanted ≡ Some x) × (after ≡ before ++ x ∷ [])
Adds wanted before after (Err halt.Broken) = wanted ≡ None
Adds wanted before after (Err halt.NoMemory) = Unit {0}
