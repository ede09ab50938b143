-- What the steps of reading a specification answer.
use Rattle.std.specs.Prelude.{◌≡◌, Option, Some, None, Result, Ok, Err}
use Rattle.gm_types.specs.declared.halt.Halt.{Halt}
use Rattle.gm_types.specs.declared.halt.Halt.TheVariants as halt
use Rattle.gm_types.specs.declared.outline.Outline.{Outline}
use Rattle.gm_types.specs.Outline.{outlined}
use Rattle.gm_types.specs.Specification.{Specification}

-- the outline is that of the wanted specification
abbrev pub OutlineReads : Option Specification → Result Outline Halt → Type 0
OutlineReads wanted (Ok outline) = wanted ≡ Some (outlined outline)
OutlineReads wanted (Err halt.Broken) = wanted ≡ None
OutlineReads wanted (Err halt.NoMemory) = Unit {0}
