-- What reading answers.
use Rattle.std.specs.Prelude.{◌≡◌, List, ℕ, Option, Some, None, Result, Ok, Err}
use Rattle.gm_geom.specs.declared.geometry.Geometry.{Geometry}
use Rattle.gm_geom.specs.declared.validity.GeomFault.{GeomFault}
use Rattle.gm_geom.specs.Validity.{fault_of}
use Rattle.gm_wkt.specs.declared.fault.WktFault.{WktFault}
use Rattle.gm_wkt.specs.declared.fault.WktFault.TheVariants as fault
use Rattle.gm_wkt.specs.Grammar.{SpellsText}
use Rattle.gm_wkt.specs.Value.{geometry_of}

-- what an answer says of the text
abbrev pub IsAnswer : List ℕ → Result Geometry WktFault → Type 0
IsAnswer text (Ok g) = SpellsText text g × (fault_of g ≡ None)
IsAnswer text (Err fault.Syntax) = (g : Geometry) → SpellsText text g → ⊥
IsAnswer text (Err (fault.Geom f)) = (g : Geometry) × SpellsText text g × (fault_of g ≡ Some f)
IsAnswer text (Err fault.NoMemory) = Unit {0}

-- what the answer to a text that spells the geometry can be
abbrev pub IsReadAs : Geometry → Result Geometry WktFault → Type 0
IsReadAs g (Ok h) = (h ≡ g) × (fault_of g ≡ None)
IsReadAs g (Err fault.Syntax) = ⊥
IsReadAs g (Err (fault.Geom f)) = fault_of g ≡ Some f
IsReadAs g (Err fault.NoMemory) = Unit {0}

abbrev pub kept_or : Geometry → Option GeomFault → Result Geometry WktFault
kept_or g None = Ok g
kept_or g (Some f) = Err (fault.Geom f)

abbrev pub judged : Option Geometry → Result Geometry WktFault
judged None = Err fault.Syntax
judged (Some g) = kept_or g (fault_of g)

-- the answer to a text, where there is memory
abbrev pub answer_of : List ℕ → Result Geometry WktFault
answer_of text = judged (geometry_of text)

-- the answer is this one, unless memory ran out
abbrev pub IsUnlessMemory : Result Geometry WktFault → Result Geometry WktFault → Type 0
IsUnlessMemory answer (Ok g) = answer ≡ Ok g
IsUnlessMemory answer (Err fault.Syntax) = answer ≡ Err fault.Syntax
IsUnlessMemory answer (Err (fault.Geom f)) = answer ≡ Err (fault.Geom f)
IsUnlessMemory answer (Err fault.NoMemory) = Unit {0}
