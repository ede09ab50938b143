use Rattle.std.proofs.Common.{◌≡◌, ◌≤◌, ◌+◌, drop}
use Rattle.gm_ecql.specs.Token.{seen_all}
use Rattle.gm_ecql.specs.Limits.{joins}
use Rattle.gm_ecql.proofs.limits.joins.Given as goal

abbrev pub invariant-tokens : goal.invariant-tokens
invariant-tokens l = record {
  few : l.count ≤ l.spaced-index;
  same : l.count + joins (seen_all (drop l.spaced-index l.tokens)) ≡ joins (seen_all l.tokens);
}
