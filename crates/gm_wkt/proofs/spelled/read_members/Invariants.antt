use Rattle.std.proofs.Common.{ℕ, List, ◌++◌, length}
use Rattle.gm_wkt.specs.Reader.{UpTo}
use Rattle.gm_wkt.proofs.Readers.{Remains}
use Rattle.gm_wkt.proofs.spelled.read_members.Given as goal

abbrev pub invariant-members : goal.invariant-members
invariant-members g l = record {
  found : (xs : List g.row.T.Denot) (tail : List ℕ)
      → UpTo (g.T.Spelled.spells l.loose) l.rest xs tail
      → UpTo (g.T.Spelled.spells l.loose) l.text (l.items ++ xs) tail;
  only : (xs : List g.row.T.Denot) (tail : List ℕ)
      → UpTo (g.T.Spelled.spells l.loose) l.text xs tail
      → Remains (g.T.Spelled.spells l.loose) l.rest l.items xs tail;
}

abbrev pub decreases-members : goal.decreases-members
decreases-members g l = length l.rest
