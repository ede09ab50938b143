use Rattle.gm_calendar.proofs.BinOrder.{bin_at-tells, has_number_where, bin_at-offset, ends_before}
use Rattle.gm_calendar.proofs.BinOrder.{later_is_not_after}
use Rattle.gm_calendar.proofs.bin.bins_follow_time.Goals as goal

pub returns-clause-by_starts : goal.returns-clause-by_starts
returns-clause-by_starts c = bin_at-tells c.args.period

pub returns-clause-span : goal.returns-clause-span
returns-clause-span c = has_number_where c.args.period

pub returns-clause-offset : goal.returns-clause-offset
returns-clause-offset c = bin_at-offset c.args.period

pub returns-clause-starts : goal.returns-clause-starts
returns-clause-starts c = ends_before c.args.period

pub returns-clause-order : goal.returns-clause-order
returns-clause-order c = later_is_not_after c.args.period
