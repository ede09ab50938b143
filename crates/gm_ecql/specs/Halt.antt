-- What the answer of a reader says of what is to be read.
use Rattle.std.specs.Prelude.{◌≡◌, Bool, true, false, Option, Some, None, Result, Ok, Err}
use Rattle.gm_ecql.specs.declared.halt.Halt.{Halt}
use Rattle.gm_ecql.specs.declared.halt.Halt.TheVariants as halt
use Rattle.gm_ecql.specs.declared.fault.FilterFault.{FilterFault}
use Rattle.gm_ecql.specs.declared.fault.FilterFault.TheVariants as fault

abbrev pub Halts : {Y : Type 0} → Option Y → Halt → Type 0
Halts wanted halt.Syntax = wanted ≡ None
Halts wanted halt.NoMemory = Unit {0}

-- What is seen of a result is what is wanted, and a syntax fault says that nothing is, unless
-- memory ran out.
abbrev pub Gives : {X Y : Type 0} → (X → Y) → Option Y → Result X Halt → Type 0
Gives view wanted (Ok x) = wanted ≡ Some (view x)
Gives view wanted (Err e) = Halts wanted e

-- a test passes, or a syntax fault says that it does not, unless memory ran out
abbrev pub Passes : Bool → Result (Unit {0}) Halt → Type 0
Passes test (Ok _) = test ≡ true
Passes test (Err halt.Syntax) = test ≡ false
Passes test (Err halt.NoMemory) = Unit {0}

-- the fault of a reader that stopped
abbrev pub IsFaultOf : Halt → FilterFault → Type 0
IsFaultOf halt.Syntax e = e ≡ fault.Syntax
IsFaultOf halt.NoMemory e = e ≡ fault.NoMemory
