use Rattle.std.proofs.Common.{ℕ, ◌+◌, ◌≤◌, ◌<◌, ◌∙◌, arith}
use Rattle.gm_calendar.specs.Period.{last_of}
use Rattle.gm_plan.specs.Bins.{is_met, bins_of}
use Rattle.gm_plan.proofs.Times.{none_at_first, none_left, all_numbered}
use Rattle.gm_plan.proofs.bins.bins_of.Goals as goal

pub bins-init : goal.bins-init
bins-init c = record {
  value = c.new-bins.ensures.items
      ∙ none_at_first (is_met c.args.period c.args.intervals.now) c.first_bin-first.result
      c.first_bin-first.ensures.none;
  within = c.first_bin-first.ensures.within;
}

pub returns-clause-value : goal.returns-clause-value
unfolding bins_of
returns-clause-value c =
    none_left (is_met c.args.period c.args.intervals.now) c.bins.bin (last_of c.args.period + 1)
    c.bins.bins.items c.bins.invariant.value c.bins.invariant.within
    (λ number low high. c.end_bin-end.ensures.none number (behind _ _ _ c.bins-test.false low)
    (within _ _ high))
  where
    behind : (a b n : ℕ) → a ≤ b → b ≤ n → a ≤ n
    behind a b n h k = omega arith

    within : (n last : ℕ) → n < last + 1 → n ≤ last
    within n last h = omega arith

pub returns-clause-numbered : goal.returns-clause-numbered
returns-clause-numbered c =
    all_numbered (is_met c.args.period c.args.intervals.now) c.bins.bin (last_of c.args.period)
    c.bins.bins.items c.bins.invariant.value c.bins.invariant.within
