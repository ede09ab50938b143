use Rattle.std.proofs.Common.{ℕ, ◌+◌, ◌*◌, ◌≤◌, ◌<◌, length, map}
use Rattle.gm_filter.specs.Tree.{tree, all, any}
use Rattle.gm_ecql.specs.declared.keyword.Keyword.TheVariants as keyword
use Rattle.gm_ecql.specs.Judging.{faults_seen}
use Rattle.gm_ecql.specs.Parser.{factor_at, term_with, filter_with}
use Rattle.gm_ecql.specs.Token.{seen_all}
use Rattle.gm_ecql.proofs.Pending.{Pending}
use Rattle.gm_ecql.proofs.parser.+parser.Given as goal

abbrev pub decreases-factor : goal.decreases-factor
decreases-factor l = 4 * length l.tokens.now

abbrev pub decreases-bracketed : goal.decreases-bracketed
decreases-bracketed l = 4 * length l.tokens.now + 3

abbrev pub decreases-term : goal.decreases-term
decreases-term l = 4 * length l.tokens.now + 1

abbrev pub decreases-filter : goal.decreases-filter
decreases-filter l = 4 * length l.tokens.now + 2

abbrev pub invariant-term-factors : goal.invariant-term-factors
invariant-term-factors l = record {
  some : 1 ≤ length l.members.items;
  shorter : length l.rest < length l.tokens;
  pending : (n : ℕ) → length l.tokens ≤ n
      → Pending keyword.And all (factor_at l.of n)
      (record { members = map tree l.members.items; faults = faults_seen l.faults })
      (seen_all l.rest) (term_with (factor_at l.of n) n (seen_all l.tokens));
}

abbrev pub decreases-term-factors : goal.decreases-term-factors
decreases-term-factors l = length l.rest

abbrev pub invariant-filter-terms : goal.invariant-filter-terms
invariant-filter-terms l = record {
  some : 1 ≤ length l.members.items;
  shorter : length l.rest < length l.tokens;
  pending : (n : ℕ) → length l.tokens ≤ n
      → Pending keyword.Or any (term_with (factor_at l.of n) n)
      (record { members = map tree l.members.items; faults = faults_seen l.faults })
      (seen_all l.rest) (filter_with (factor_at l.of n) n (seen_all l.tokens));
}

abbrev pub decreases-filter-terms : goal.decreases-filter-terms
decreases-filter-terms l = length l.rest
