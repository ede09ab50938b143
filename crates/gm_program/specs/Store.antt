-- What a store keeps: the state whose types and rows it has.
use Rattle.std.specs.Prelude.{◌≡◌, List, Some}
use Rattle.gm_types.specs.Specification.{Specification}
use Rattle.gm_table.specs.Sorted.{Rows}
use Rattle.gm_engine_rows.specs.State.{State, IsState, types_of, type_at}
use Rattle.gm_engine_rows.specs.Rows.{rows_of}
use Rattle.gm_program.specs.Limits.{IsWithinLimits}

-- the types as a store lists them
abbrev pub Types : Type 0
Types = List Specification

-- the list of types and the table have the types and the rows of this state, which is within the
-- limits
pub record Holds (s : State) (types : Types) (rows : Rows) : Type 0 where
  pub state : IsState s
  pub limits : IsWithinLimits s
  pub same_types : types ≡ types_of s
  pub same_rows : rows ≡ rows_of s

-- they have those of some state
abbrev pub HasState : Types → Rows → Type 0
HasState types rows = (s : State) × Holds s types rows

-- the rows are those of the state, which has this type
pub record IsTypeOf (s : State) (t : Specification) (rows : Rows) : Type 0 where
  pub state : IsState s
  pub limits : IsWithinLimits s
  pub typed : type_at t.number s ≡ Some t
  pub same_rows : rows ≡ rows_of s

-- they are those of some state that has it
abbrev pub HasType : Specification → Rows → Type 0
HasType t rows = (s : State) × IsTypeOf s t rows
