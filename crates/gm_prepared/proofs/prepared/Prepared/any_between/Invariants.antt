use Rattle.std.proofs.Common.{◌≡◌, ℕ, ◌<◌, ◌≤◌, false, [], get_or}
use Rattle.std.specs.List.{list_any}
use Rattle.gm_prepared.proofs.prepared.Prepared.any_between.Given as goal

abbrev pub invariant-bands : goal.invariant-bands
invariant-bands g l =
    (j : ℕ) → l.first ≤ j → j < l.k
    → list_any (g.T.EdgeTest.passed l.test) (get_or l.self-inside.lists.items j []) ≡ false
