-- The state of a store that has nothing.
use Rattle.std.proofs.Common.{◌≡◌, [], sym, ◌∙◌, ap, length, arith}
use Rattle.gm_table.specs.Sorted.{Rows}
use Rattle.gm_program.specs.Store.{Types, Holds}
use Rattle.gm_program.proofs.StateLemmas.{rows_of-none, is_state-none}

-- no type and no row are those of the state without types
pub holds_nothing : (types : Types) (rows : Rows) → types ≡ [] → rows ≡ [] → Holds [] types rows
holds_nothing types rows no_type no_row = record {
  state = is_state-none;
  limits = record { types = omega arith; rows = omega (arith, ap length rows_of-none) };
  same_types = no_type;
  same_rows = no_row ∙ sym rows_of-none;
}
