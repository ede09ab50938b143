use Rattle.std.proofs.Common.{rules, ◌≡◌, ◌++◌, codes}
use Rattle.std.specs.String.{string_bytes}
use Rattle.gm_base.proofs.Lists.{before}
use Rattle.gm_geom.specs.Number.{fixed_text}
use Rattle.gm_program.specs.Generator.{centred, line}
use Rattle.gm_program.proofs.generator.append_place.Goals as goal

pub returns : goal.returns
returns c =
    let e1 : string_bytes c.append.new.script ≡ string_bytes c.args.script.now ++ codes ",POINT (" =
    c.in_ok-append.ensures in
    let e2 : string_bytes c.append_fixed.new.out
    ≡ string_bytes c.append.new.script ++ fixed_text (centred 1800000000 c.args.x) =
    search rules in
    let e3 : string_bytes c.append-2.new.script ≡ string_bytes c.append_fixed.new.out ++ codes " " =
    c.in_ok-append-2.ensures in
    let e4 : string_bytes c.append_fixed-2.new.out
    ≡ string_bytes c.append-2.new.script ++ fixed_text (centred 900000000 c.args.y) =
    search rules in
    let e5 : string_bytes c.append-3.new.script
    ≡ string_bytes c.append_fixed-2.new.out ++ line (codes ")") = c.in_ok-append-3.ensures in
    before (string_bytes c.args.script.now) (codes ",POINT (")
    (fixed_text (centred 1800000000 c.args.x)
    ++ (codes " " ++ (fixed_text (centred 900000000 c.args.y) ++ (line (codes ")")))))
    (before (string_bytes c.append.new.script) (fixed_text (centred 1800000000 c.args.x))
    (codes " " ++ (fixed_text (centred 900000000 c.args.y) ++ (line (codes ")"))))
    (before (string_bytes c.append_fixed.new.out) (codes " ")
    (fixed_text (centred 900000000 c.args.y) ++ (line (codes ")")))
    (before (string_bytes c.append-2.new.script)
    (fixed_text (centred 900000000 c.args.y)) (line (codes ")")) (e5) e4) e3)
    e2) e1
