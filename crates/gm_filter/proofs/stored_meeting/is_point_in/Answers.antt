use Rattle.std.proofs.Common.{◌∙◌}
use Rattle.gm_filter.proofs.Seen.{point_meets}
use Rattle.gm_filter.proofs.stored_meeting.is_point_in.Goals as goal

pub returns : goal.returns
returns c = c.is_in_box.ensures
    ∙ point_meets c.args.point c.args.area
    (c.meets_where_in_box.ensures c.args.point c.args.area c.requires.0 c.requires.1)
