use Rattle.std.proofs.Common.{◌≡◌, ◌++◌, ◌∷◌, [], drop}
use Rattle.std.specs.String.{string_bytes}
use Rattle.gm_base.specs.Text.{BeginsWith}
use Rattle.gm_wkt.specs.Printer.{members_text, list_text}
use Rattle.gm_wkt.proofs.printer.append_list.Given as goal

abbrev pub invariant-items : goal.invariant-items
invariant-items g l = record {
  kept : BeginsWith (string_bytes l.out) (string_bytes l.fn.out);
  text : string_bytes l.out
      ++ (members_text (g.T.Printed.text) l.first (drop l.item-index l.items) ++ 41 ∷ [])
      ≡ string_bytes l.fn.out ++ list_text (g.T.Printed.text) l.items;
}
