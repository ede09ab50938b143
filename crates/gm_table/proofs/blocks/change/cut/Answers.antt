use Rattle.std.proofs.Common.{◌≡◌, ◌+◌, take, drop, ap, ◌∙◌, get_or, arith}
use Rattle.std.proofs.Math.ListN.{set}
use Rattle.std.proofs.lemmas.Grind.{common_steps}
use Rattle.std.proofs.lemmas.Result.{err_from_is_err_and}
use Rattle.std.specs.List.{insert}
use Rattle.std.specs.Prelude.{IsOk}
use Rattle.gm_table.specs.declared.blocks.block.Block.{Block}
use Rattle.gm_table.specs.declared.blocks.change.TheConstants.{HALF}
use Rattle.gm_table.specs.Blocks.{lists_of, rows_of}
use Rattle.gm_table.proofs.BlockChanges.{is_cut, set_same}
use Rattle.gm_table.proofs.blocks.change.cut.Goals as goal

pub returns-clause-ok : goal.returns-clause-ok
returns-clause-ok c =
    let blocks = c.args.list.now.items in
    let n = c.args.n in
    let d : Block = c.index_mut.result.now in
    let first = c.split.new.self in
    let second = c.in_ok-later.later in
    let kept = c.in_ok-reserve.ensures.items in
    let is : d ≡ get_or blocks n d = c.index_mut.ensures.value ∙ ap (λ xs. get_or xs n d) kept in
    let room : IsOk c.insert.result =
    c.insert.ensures.succeeds (omega (arith, c.in_ok-reserve.ensures.ok)) in
    let made : c.insert.new.self.items
    ≡ insert (set c.reserve.new.self.items n first) (n + 1) second =
    grind (arith, common_steps) in
    is_cut blocks c.insert.new.self.items n HALF first second d c.requires.within
    (made ∙ ap (λ xs. insert (set xs n first) (n + 1) second) kept)
    (c.in_ok-later.ensures.front ∙ ap (λ (block : Block). take HALF block.rows) is)
    (c.in_ok-later.ensures.back ∙ ap (λ (block : Block). drop HALF block.rows) is)

pub returns-in_err-later-clause-err : goal.returns-in_err-later-clause-err
returns-in_err-later-clause-err c =
    let blocks = c.args.list.now.items in
    let n = c.args.n in
    let d : Block = c.index_mut.result.now in
    let kept = c.in_ok-reserve.ensures.items in
    let is : d ≡ get_or blocks n d = c.index_mut.ensures.value ∙ ap (λ xs. get_or xs n d) kept in
    let p = err_from_is_err_and c.from_residual-in_err-later.result
    c.from_residual-in_err-later.ensures.1 in
    rw p.1
    (ap (λ xs. rows_of (lists_of (set xs n c.split.new.self))) kept
    ∙ set_same blocks n c.split.new.self d c.requires.within
    (c.in_err-later.ensures.err ∙ ap (λ (block : Block). block.rows) is))
