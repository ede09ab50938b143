use Rattle.std.proofs.Common.{◌≡◌, ◌+◌, length}
use Rattle.gm_filter.specs.Wildcards as spec
use Rattle.gm_filter.proofs.wildcards.matches_some_suffix.Given as goal

abbrev pub invariant-search : goal.invariant-search
invariant-search l =
    spec.some_suffix_from (spec.matches l.pattern) l.text
    ≡ spec.some_suffix_from (spec.matches l.fn.pattern) l.fn.text

abbrev pub decreases-search : goal.decreases-search
decreases-search l = length l.pattern + length l.text
