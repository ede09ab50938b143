use Rattle.gm_rows.proofs.RowLaws.{row_read}
use Rattle.gm_wkt.specs.Printer as wkt
use Rattle.gm_rows.proofs.laws.printed_rows_are_read.Goals as goal

pub returns : goal.returns
returns c = row_read record {
  date_read = c.printed_instants_are_read.ensures.reads_back;
  date_bytes = c.printed_instants_are_read.ensures.bytes;
  date_form = c.printed_instants_are_read.ensures.date;
  geometry_read = c.printed_is_spelled.ensures.reads_back;
  geometry_some =
      λ g none. c.spelled_on_a_line.ensures.some (wkt.printed g) g
      (c.printed_is_spelled.ensures.spells g none);
  geometry_line =
      λ g none. c.spelled_on_a_line.ensures.line (wkt.printed g) g
      (c.printed_is_spelled.ensures.spells g none);
}
