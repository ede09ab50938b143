use Rattle.std.proofs.Common.{◌≡◌, ◌++◌, drop}
use Rattle.std.specs.Prelude.{filter}
use Rattle.gm_base.specs.Identifier.{is_identifier}
use Rattle.gm_bounds.proofs.identifiers.identifiers.Given as goal

abbrev pub invariant-texts : goal.invariant-texts
invariant-texts l =
    l.list.items ++ filter is_identifier (drop l.text-index l.texts) ≡ filter is_identifier l.texts
