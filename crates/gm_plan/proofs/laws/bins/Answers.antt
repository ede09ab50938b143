use Rattle.gm_plan.proofs.SpaceReads.{by_period}
use Rattle.std.specs.Prelude.{ℤ, MatchOption}
use Rattle.gm_calendar.specs.Bin.{bin_at, HasNoBin, IsBinOf}
use Rattle.gm_plan.proofs.laws.bins.Goals as goal

pub returns : goal.returns
returns c =
    by_period (λ period. (at : ℤ)
    → MatchOption (bin_at period at) (HasNoBin period at) (IsBinOf period at))
    c.bins_follow_time.ensures.by_starts c.bins_follow_time-2.ensures.by_starts
    c.bins_follow_time-3.ensures.by_starts c.bins_follow_time-4.ensures.by_starts
