use Rattle.std.proofs.Common.{◌≡◌, ◌+◌, ◌∷◌, [], ◌++◌, List, ℕ, sym, ap, ◌∙◌, subst, arith}
use Rattle.gm_bounds.proofs.Risings.{HasWalked, past_one, past_other, past_both, walked_ones}
use Rattle.gm_bounds.proofs.Risings.{walked_others, one_element}
use Rattle.gm_bounds.proofs.identifiers.common.Goals as goal
use Rattle.gm_bounds.proofs.identifiers.common.Goals.{then-walk-test+else-other-others}
use Rattle.gm_bounds.proofs.identifiers.common.Goals.{else-walk-test}

pub walk-preserved-in-Less : goal.walk-preserved-in-Less
walk-preserved-in-Less c = record {
  ones_within = omega arith;
  others_within = omega arith;
  walked = past_one c.args.ones.now c.args.others.now c.walk.met.items c.walk.one c.walk.other
      c.index-ones-one.result c.index-others-other.result c.requires.ones_rise
      c.requires.others_rise
      c.walk-test.true c.if-other-others.true c.index-ones-one.is c.index-others-other.is
      c.walk.invariant.walked (sym c.in-Less.ensures);
}

pub walk-preserved-in-Greater : goal.walk-preserved-in-Greater
walk-preserved-in-Greater c = record {
  ones_within = omega arith;
  others_within = omega arith;
  walked = past_other c.args.ones.now c.args.others.now c.walk.met.items c.walk.one c.walk.other
      c.index-ones-one.result c.index-others-other.result c.requires.ones_rise
      c.requires.others_rise
      c.walk-test.true c.if-other-others.true c.index-ones-one.is c.index-others-other.is
      c.walk.invariant.walked (sym c.in-Greater.ensures);
}

pub walk-preserved : goal.walk-preserved
walk-preserved c =
    let step = past_both c.args.ones.now c.args.others.now c.walk.met.items c.walk.one c.walk.other
    c.index-ones-one.result c.index-others-other.result c.requires.ones_rise
    c.requires.others_rise
    c.walk-test.true c.if-other-others.true c.index-ones-one.is c.index-others-other.is
    c.walk.invariant.walked (sym c.in-Equal.ensures) in
    let read = one_element c.args.ones.now c.walk.one c.index-ones-one-in-Equal.result
    c.index-ones-one.result c.walk-test.true c.index-ones-one-in-Equal.is c.index-ones-one.is in
    let grown : c.push.new.self.items ≡ c.walk.met.items ++ c.index-ones-one.result ∷ [] =
    c.in_ok-push-in-Equal.ensures.items
    ∙ ap (λ x. c.walk.met.items ++ x ∷ []) (c.in_ok-copy-in-Equal.ensures ∙ read) in
    let P : List (List ℕ) → Type 0 =
    λ zs. HasWalked c.args.ones.now c.args.others.now zs (c.walk.one + 1) (c.walk.other + 1) in
    record {
      ones_within = omega arith;
      others_within = omega arith;
      walked = subst P (sym grown) step;
    }

pub returns : goal.returns
returns c = elim c.walk-test.branch [
  | then-walk-test+else-other-others w ↦
      walked_others c.args.ones.now c.args.others.now c.walk.met.items c.walk.one c.walk.other
      w.if-other-others.false c.walk.invariant.walked
  | else-walk-test w ↦
      walked_ones c.args.ones.now c.args.others.now c.walk.met.items c.walk.one c.walk.other
      w.walk-test.false c.walk.invariant.walked
]
