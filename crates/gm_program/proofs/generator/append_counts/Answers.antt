use Rattle.std.proofs.Common.{◌≡◌, ◌++◌, ℕ, List, codes}
use Rattle.std.specs.String.{string_bytes}
use Rattle.gm_base.proofs.Lists.{before}
use Rattle.gm_program.specs.Generator.{line}
use Rattle.gm_program.proofs.generator.append_counts.Goals as goal

-- the lines, and what stands behind each of them
abbrev first : List ℕ
first = line (codes "count gen BBOX(geom,-10,-10,10,10)")

abbrev by_id : List ℕ
by_id = line (codes "count gen index=id BBOX(geom,-10,-10,10,10)")

abbrev with_target : List ℕ
with_target = line (codes "count gen target=1 BBOX(geom,-10,-10,10,10)")

abbrev in_march : List ℕ
in_march = line (codes
    "count gen BBOX(geom,-90,-45,90,45) AND dtg DURING 2020-03-01T00:00:00Z/2020-04-01T00:00:00Z")

abbrev by_name : List ℕ
by_name = line (codes "count gen name = 'n7'")

abbrev by_name_or_id : List ℕ
by_name_or_id = line (codes "count gen name = 'n7' OR IN ('g1','g2')")

abbrev below_ten : List ℕ
below_ten = line (codes "count gen n < 10")

abbrev behind_name : List ℕ
behind_name = by_name_or_id ++ below_ten

abbrev behind_march : List ℕ
behind_march = by_name ++ behind_name

abbrev behind_target : List ℕ
behind_target = in_march ++ behind_march

abbrev behind_id : List ℕ
behind_id = with_target ++ behind_target

abbrev behind_first : List ℕ
behind_first = by_id ++ behind_id

pub returns : goal.returns
returns c =
    let e1 : string_bytes c.append.new.script ≡ string_bytes c.args.script.now ++ first =
    c.in_ok-append.ensures in
    let e2 : string_bytes c.append-2.new.script ≡ string_bytes c.append.new.script ++ by_id =
    c.in_ok-append-2.ensures in
    let e3 : string_bytes c.append-3.new.script
    ≡ string_bytes c.append-2.new.script ++ with_target = c.in_ok-append-3.ensures in
    let e4 : string_bytes c.append-4.new.script ≡ string_bytes c.append-3.new.script ++ in_march =
    c.in_ok-append-4.ensures in
    let e5 : string_bytes c.append-5.new.script ≡ string_bytes c.append-4.new.script ++ by_name =
    c.in_ok-append-5.ensures in
    let e6 : string_bytes c.append-6.new.script
    ≡ string_bytes c.append-5.new.script ++ by_name_or_id = c.in_ok-append-6.ensures in
    let e7 : string_bytes c.append-7.new.script ≡ string_bytes c.append-6.new.script ++ below_ten =
    c.in_ok-append-7.ensures in
    before (string_bytes c.args.script.now) first behind_first
    (before (string_bytes c.append.new.script) by_id behind_id
    (before (string_bytes c.append-2.new.script) with_target behind_target
    (before (string_bytes c.append-3.new.script) in_march behind_march
    (before (string_bytes c.append-4.new.script) by_name behind_name
    (before (string_bytes c.append-5.new.script) by_name_or_id below_ten
    e7 e6) e5) e4) e3) e2) e1
