use Rattle.std.proofs.Common.{◌≡◌, ◌+◌, ◌-◌, ◌<◌, ◌≤◌, suc, length, subst, sym, ap, ◌∙◌, get_or}
use Rattle.std.proofs.Common.{arith}
use Rattle.std.proofs.lemmas.List.{get_or_default}
use Rattle.gm_table.specs.declared.blocks.block.Block.{Block}
use Rattle.gm_table.specs.declared.blocks.change.TheConstants.{HALF, CUT_AT}
use Rattle.gm_table.specs.Blocks.{HasRoom, most_rows, rows_at, rows_until}
use Rattle.gm_table.proofs.BlockPlaces.{block_at}
use Rattle.gm_table.proofs.BlockWalks.{place_bound}
use Rattle.gm_table.proofs.BlockChanges.{place_within, same_first, same_second}
use Rattle.gm_table.proofs.blocks.change.make_room.Goals as goal

pub index-requires : goal.index-requires
index-requires c =
    omega (
      arith,
      c.args.list.now.ok.0,
      place_within c.args.list.now.items c.args.at.block c.args.at.row c.requires.some
          c.requires.place,
    )

pub returns-then-len-lt-CUT_AT-clause-room : goal.returns-then-len-lt-CUT_AT-clause-room
returns-then-len-lt-CUT_AT-clause-room c =
    let blocks = c.args.list.now.items in
    let n = c.args.at.block in
    let row = c.args.at.row in
    let d : Block = c.index.result.now in
    let within : n < length blocks = place_within blocks n row c.requires.some c.requires.place in
    record {
      within = within;
      inside = λ e. place_bound blocks n row e c.requires.place within;
      room = λ e. subst (λ (block : Block). length block.rows < most_rows)
          (c.index.ensures ∙ get_or_default blocks n d e within)
          (omega (arith, c.len.ensures, c.if-len-lt-CUT_AT.true));
    }

pub cut-requires-clause-within : goal.cut-requires-clause-within
cut-requires-clause-within c =
    place_within c.args.list.now.items c.args.at.block c.args.at.row c.requires.some
    c.requires.place

pub cut-requires-clause-many : goal.cut-requires-clause-many
cut-requires-clause-many c = λ e.
    let blocks = c.args.list.now.items in
    let n = c.args.at.block in
    let row = c.args.at.row in
    let d : Block = c.index.result.now in
    let within : n < length blocks = place_within blocks n row c.requires.some c.requires.place in
    subst (λ (block : Block). CUT_AT ≤ length block.rows)
    (c.index.ensures ∙ get_or_default blocks n d e within)
    (omega (arith, c.len.ensures, c.if-len-lt-CUT_AT.false))

pub returns-then-at-le-HALF-clause-room : goal.returns-then-at-le-HALF-clause-room
returns-then-at-le-HALF-clause-room c =
    let blocks = c.args.list.now.items in
    let n = c.args.at.block in
    let row = c.args.at.row in
    let d : Block = c.index.result.now in
    let within : n < length blocks = place_within blocks n row c.requires.some c.requires.place in
    let few : HALF ≤ length (get_or blocks n d).rows =
    subst (λ (block : Block). HALF ≤ length block.rows) c.index.ensures
    (omega (arith, c.len.ensures, c.if-len-lt-CUT_AT.false)) in
    let same = same_first blocks c.cut.new.list.items n HALF row d c.in_ok-cut.ensures.ok within
    c.if-at-le-HALF.true few (omega arith) in
    same.room

pub returns-then-at-le-HALF-clause-until : goal.returns-then-at-le-HALF-clause-until
returns-then-at-le-HALF-clause-until c =
    let blocks = c.args.list.now.items in
    let n = c.args.at.block in
    let row = c.args.at.row in
    let d : Block = c.index.result.now in
    let within : n < length blocks = place_within blocks n row c.requires.some c.requires.place in
    let few : HALF ≤ length (get_or blocks n d).rows =
    subst (λ (block : Block). HALF ≤ length block.rows) c.index.ensures
    (omega (arith, c.len.ensures, c.if-len-lt-CUT_AT.false)) in
    let same = same_first blocks c.cut.new.list.items n HALF row d c.in_ok-cut.ensures.ok within
    c.if-at-le-HALF.true few (omega arith) in
    same.until

pub returns-then-at-le-HALF-clause-from : goal.returns-then-at-le-HALF-clause-from
returns-then-at-le-HALF-clause-from c =
    let blocks = c.args.list.now.items in
    let n = c.args.at.block in
    let row = c.args.at.row in
    let d : Block = c.index.result.now in
    let within : n < length blocks = place_within blocks n row c.requires.some c.requires.place in
    let few : HALF ≤ length (get_or blocks n d).rows =
    subst (λ (block : Block). HALF ≤ length block.rows) c.index.ensures
    (omega (arith, c.len.ensures, c.if-len-lt-CUT_AT.false)) in
    let same = same_first blocks c.cut.new.list.items n HALF row d c.in_ok-cut.ensures.ok within
    c.if-at-le-HALF.true few (omega arith) in
    same.from

pub overflow_add-result : goal.overflow_add-result
overflow_add-result c =
    omega (
      arith,
      c.args.list.now.ok.0,
      place_within c.args.list.now.items c.args.at.block c.args.at.row c.requires.some
          c.requires.place,
    )

pub returns-clause-room : goal.returns-clause-room
returns-clause-room c =
    let blocks = c.args.list.now.items in
    let n = c.args.at.block in
    let row = c.args.at.row in
    let d : Block = c.index.result.now in
    let within : n < length blocks = place_within blocks n row c.requires.some c.requires.place in
    let next : n + 1 ≡ suc n = omega arith in
    let size = (block_at blocks c.requires.each n d within).sized.few in
    let same = same_second blocks c.cut.new.list.items n HALF (row - HALF) row d
    c.in_ok-cut.ensures.ok within (omega (arith, c.if-at-le-HALF.false))
    (place_bound blocks n row d c.requires.place within) size (omega arith) in
    subst (λ k. HasRoom k (row - HALF) c.cut.new.list.items) (sym next) same.room

pub returns-clause-until : goal.returns-clause-until
returns-clause-until c =
    let blocks = c.args.list.now.items in
    let n = c.args.at.block in
    let row = c.args.at.row in
    let d : Block = c.index.result.now in
    let within : n < length blocks = place_within blocks n row c.requires.some c.requires.place in
    let next : n + 1 ≡ suc n = omega arith in
    let size = (block_at blocks c.requires.each n d within).sized.few in
    let same = same_second blocks c.cut.new.list.items n HALF (row - HALF) row d
    c.in_ok-cut.ensures.ok within (omega (arith, c.if-at-le-HALF.false))
    (place_bound blocks n row d c.requires.place within) size (omega arith) in
    ap (λ k. rows_until k (row - HALF) c.cut.new.list.items) next ∙ same.until

pub returns-clause-from : goal.returns-clause-from
returns-clause-from c =
    let blocks = c.args.list.now.items in
    let n = c.args.at.block in
    let row = c.args.at.row in
    let d : Block = c.index.result.now in
    let within : n < length blocks = place_within blocks n row c.requires.some c.requires.place in
    let next : n + 1 ≡ suc n = omega arith in
    let size = (block_at blocks c.requires.each n d within).sized.few in
    let same = same_second blocks c.cut.new.list.items n HALF (row - HALF) row d
    c.in_ok-cut.ensures.ok within (omega (arith, c.if-at-le-HALF.false))
    (place_bound blocks n row d c.requires.place within) size (omega arith) in
    ap (λ k. rows_at k (row - HALF) c.cut.new.list.items) next ∙ same.from
