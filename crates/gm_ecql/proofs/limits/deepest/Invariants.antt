use Rattle.std.proofs.Common.{◌≡◌, ◌≤◌, drop, max}
use Rattle.gm_ecql.specs.Token.{seen_all}
use Rattle.gm_ecql.specs.Limits.{deepest}
use Rattle.gm_ecql.proofs.limits.deepest.Given as goal

abbrev pub invariant-tokens : goal.invariant-tokens
invariant-tokens l = record {
  few : l.depth ≤ l.spaced-index;
  least : l.depth ≤ l.most;
  same : max l.most (deepest l.depth (seen_all (drop l.spaced-index l.tokens)))
      ≡ deepest 0 (seen_all l.tokens);
}
