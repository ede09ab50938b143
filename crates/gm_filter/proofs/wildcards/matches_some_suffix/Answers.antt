use Rattle.std.proofs.Common.{sym, ◌∙◌}
use Rattle.gm_filter.proofs.Steps.{first_match_in}
use Rattle.gm_filter.proofs.wildcards.matches_some_suffix.Goals as goal

pub search-preserved : goal.search-preserved
search-preserved c =
    first_match_in _ c.search.text.now _ _ c.in-len1-up.len_at_least
    (sym c.if-is_continuation.ensures) c.in-Percent.ensures ∙ c.search.invariant
