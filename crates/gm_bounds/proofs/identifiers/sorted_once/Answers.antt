use Rattle.std.proofs.Common.{◌∙◌}
use Rattle.std.proofs.lemmas.List.Filters.{dedup_is}
use Rattle.std.specs.Str.{bytes_eq}
use Rattle.gm_bounds.proofs.Risings.{sorted_is}
use Rattle.gm_bounds.proofs.identifiers.sorted_once.Goals as goal

pub returns : goal.returns
returns c =
    c.from_vec.ensures
    ∙ dedup_is bytes_eq c.sort.new.self.items c.dedup.new.self.items c.dedup.ensures.filtered
    ∙ sorted_is c.args.list.items c.sort.new.self.items c.sort.ensures.permutation
    c.in_ok-sort.ensures.sorted
