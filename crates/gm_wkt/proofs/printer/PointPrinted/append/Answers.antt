use Rattle.std.proofs.Common.{◌≡◌, ◌++◌, ◌∷◌, [], rules}
use Rattle.std.specs.Prelude.{OnOk}
use Rattle.std.specs.String.{string_bytes}
use Rattle.std.proofs.lemmas.Result.{on_ok_weaker}
use Rattle.gm_base.specs.Ascii.{space}
use Rattle.gm_base.proofs.Lists.{before}
use Rattle.gm_geom.specs.Number.{fixed_text}
use Rattle.gm_wkt.proofs.printer.PointPrinted.append.Goals as goal

pub returns-clause-text : goal.returns-clause-text
returns-clause-text c =
    let x = fixed_text c.args.self.now.x in
    let y = fixed_text c.args.self.now.y in
    let gap = space ∷ [] in
    let first : string_bytes c.append_fixed.new.out ≡ string_bytes c.args.out.now ++ x =
    search rules in
    let second : string_bytes c.push_str.new.self ≡ string_bytes c.append_fixed.new.out ++ gap =
    search rules in
    let third : OnOk c.append_fixed-2.result
    (string_bytes c.append_fixed-2.new.out ≡ string_bytes c.push_str.new.self ++ y) =
    search rules in
    on_ok_weaker c.append_fixed-2.result
    (λ last. before (string_bytes c.args.out.now) x (gap ++ y)
    (before (string_bytes c.append_fixed.new.out) gap y last second) first)
    third
