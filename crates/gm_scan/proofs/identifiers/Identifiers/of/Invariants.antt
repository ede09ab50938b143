use Rattle.std.proofs.Common.{◌≡◌, ℕ, List, take}
use Rattle.std.specs.List.{list_any}
use Rattle.std.specs.Str.{bytes_eq}
use Rattle.gm_scan.specs.Texts.{has_text}
use Rattle.gm_scan.proofs.identifiers.Identifiers.of.Given as goal

abbrev pub invariant-texts : goal.invariant-texts
invariant-texts l =
    (id : List ℕ) → has_text l.sorted id ≡ list_any (bytes_eq id) (take l.text-index l.plain)
