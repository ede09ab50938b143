use Rattle.std.proofs.Common.{◌∙◌}
use Rattle.gm_table.specs.Blocks.{rows_of, lists_of}
use Rattle.gm_table.proofs.Places.{after-from}
use Rattle.gm_table.proofs.blocks.cursor.place_from.Goals as goal

pub returns : goal.returns
returns c = record {
  place = c.place_of.ensures.place;
  rows = c.place_of.ensures.from
      ∙ after-from c.args.low.now (rows_of (lists_of c.args.blocks.now)) c.requires.rising;
}
