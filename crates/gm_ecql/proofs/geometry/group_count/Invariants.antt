use Rattle.std.proofs.Common.{◌≡◌, ◌≤◌, ◌+◌, drop, option_map}
use Rattle.gm_ecql.specs.Token.{seen_all}
use Rattle.gm_ecql.specs.Geometry.{group_count}
use Rattle.gm_ecql.proofs.geometry.group_count.Given as goal

abbrev pub invariant-tokens : goal.invariant-tokens
invariant-tokens l = record {
  few : l.depth ≤ l.index;
  same : option_map (λ n. l.index + n) (group_count l.depth (seen_all (drop l.index l.tokens)))
      ≡ group_count 0 (seen_all l.tokens);
}
