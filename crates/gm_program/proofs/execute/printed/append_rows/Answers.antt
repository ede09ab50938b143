use Rattle.std.proofs.Common.{◌∙◌, ◌++◌, ◌+◌, List, [], ℕ, take, ap, arith, Bor}
use Rattle.std.proofs.lemmas.List.{take_all}
use Rattle.std.proofs.lemmas.List.Elements.{recursion_from_All}
use Rattle.std.specs.List.{flat_map}
use Rattle.std.specs.String.{string_bytes}
use Rattle.gm_feature.specs.Feature.{Fits}
use Rattle.gm_rows.specs.Printer.{row_text}
use Rattle.gm_script.specs.Reply.{row_line}
use Rattle.gm_program.proofs.Printing.{line_more, row_at, same_count}
use Rattle.gm_program.proofs.execute.printed.append_rows.Goals as goal

abbrev none : Bor (List ℕ)
none = record { ref_ptr = (0, 0); now = [] }

pub append_stored_row-requires : goal.append_stored_row-requires
append_stored_row-requires c =
    let t = c.args.of.now in
    let features = c.requires.0 in
    let at = row_at t c.args.rows.now (none, none) features c.rows.row-index c.rows-test.true
    (recursion_from_All (Fits t) features c.requires.1.fit) c.requires.1.are in
    (at.feature, record { fits = at.fits; same = at.same })

pub rows-preserved : goal.rows-preserved
rows-preserved c = λ features are.
    let t = c.args.of.now in
    let i = c.rows.row-index in
    let at = row_at t c.args.rows.now (none, none) features i c.rows-test.true
    (recursion_from_All (Fits t) features are.fit) are.are in
    line_more (string_bytes c.push_str.new.self) (string_bytes c.append_stored_row.new.into)
    (string_bytes c.rows.text) (string_bytes c.args.text.now)
    (flat_map row_line (take i features)) (row_text at.feature)
    (flat_map row_line (take (i + 1) features))
    c.in_ok-push_str.ensures.bytes
    (c.in_ok-append_stored_row.ensures.text at.feature (record { fits = at.fits; same = at.same }))
    (c.rows.invariant features are) at.lines

pub returns : goal.returns
returns c = λ features are.
    let all = same_count c.args.rows.now features are.are in
    c.rows.invariant features are
    ∙ ap (λ fs. string_bytes c.args.text.now ++ flat_map row_line fs)
    (take_all c.rows.row-index features (omega (arith, all)))
