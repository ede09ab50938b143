use Rattle.std.proofs.Common.{◌≡◌, ◌++◌, ◌∷◌, [], drop}
use Rattle.std.specs.String.{string_bytes}
use Rattle.gm_base.specs.Text.{BeginsWith}
use Rattle.gm_wkt.specs.Printer.{members_text, lone_text, list_text}
use Rattle.gm_wkt.proofs.printer.append_lones.Given as goal

abbrev pub invariant-points : goal.invariant-points
invariant-points l = record {
  kept : BeginsWith (string_bytes l.out) (string_bytes l.fn.out);
  text : string_bytes l.out
      ++ (members_text lone_text l.first (drop l.point-index l.points) ++ 41 ∷ [])
      ≡ string_bytes l.fn.out ++ list_text lone_text l.points;
}
