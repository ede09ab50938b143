-- Rows that are handed to a visitor, by what one call does: `takes before key bytes answer after`.
use Rattle.std.specs.Prelude.{◌≡◌, ℕ, ◌+◌, List, [], ◌∷◌, ◌++◌, length, Result, Ok, Err, ⊤}
use Rattle.gm_base.specs.declared.NoMemory.{NoMemory}
use Rattle.gm_table.specs.Sorted.{Rows}

-- a call for each of these rows, in this order, and each was answered by Ok
abbrev pub Handed : {V : Type 0} → (V → List ℕ → List ℕ → Result ⊤ NoMemory → V → Type 0) → V
    → Rows → V → Type 0
Handed takes before [] after = after ≡ before
Handed {V} takes before (row ∷ rows) after =
    (mid : V) × takes before row.0 row.1 (Ok tt) mid × Handed takes mid rows after

-- the visitor refused one of these rows, with this fault: the rows before it were handed out, and
-- no row after it
pub record Stops {V : Type 0} (takes : V → List ℕ → List ℕ → Result ⊤ NoMemory → V → Type 0)
    (before : V) (rows : Rows) (fault : NoMemory) (after : V) (handed : ℕ) : Type 0 where
  pub front : Rows
  pub refused : List ℕ × List ℕ
  pub rest : Rows
  pub parts : rows ≡ front ++ refused ∷ rest
  pub mid : V
  pub taken : Handed takes before front mid
  pub answer : takes mid refused.0 refused.1 (Err fault) after
  pub count : handed ≡ length front + 1
