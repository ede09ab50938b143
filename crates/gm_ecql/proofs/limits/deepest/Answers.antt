use Rattle.std.proofs.Common.{◌≡◌, max, arith}
use Rattle.gm_ecql.specs.Limits.{deepest}
use Rattle.gm_ecql.specs.Token.{seen, seen_all}
use Rattle.gm_ecql.proofs.Depths.{still_few, deeper}
use Rattle.gm_ecql.proofs.limits.deepest.Goals as goal
use Rattle.gm_ecql.proofs.limits.deepest.Goals.{then-most-depth, else-most-depth}

pub tokens-preserved : goal.tokens-preserved
tokens-preserved c =
    let few = still_few c.tokens.depth c.depth_behind-depth.result c.tokens.spaced-index
    (seen c.spaced-item.result.token) c.tokens.invariant.few c.depth_behind-depth.ensures in
    let kept = deeper c.args.tokens.now c.tokens.spaced-index c.spaced-item.result c.tokens.depth
    c.tokens.most c.depth_behind-depth.result c.if-most-depth.most
    (deepest 0 (seen_all c.args.tokens.now)) c.tokens-test.true c.spaced-item.is
    c.tokens.invariant.least c.tokens.invariant.same c.depth_behind-depth.ensures in
    elim c.if-most-depth.branch [
      | then-most-depth w ↦
          let is : c.if-most-depth.most ≡ max c.tokens.most c.depth_behind-depth.result =
          omega (arith, w.most-is, w.if-most-depth.true) in
          record { few = few; least = omega (arith, is); same = kept is }
      | else-most-depth w ↦
          let is : c.if-most-depth.most ≡ max c.tokens.most c.depth_behind-depth.result =
          omega (arith, w.most-is, w.if-most-depth.false) in
          record { few = few; least = omega (arith, is); same = kept is }
    ]
