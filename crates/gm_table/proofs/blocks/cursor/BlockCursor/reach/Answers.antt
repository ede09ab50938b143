use Rattle.std.proofs.Common.{◌≡◌, ◌≤◌, true, length, sym, ap, ◌∙◌, arith}
use Rattle.std.specs.Ordering.{nat_cmp, is_le}
use Rattle.std.specs.Cmp.Lexicographic.{slice_cmp}
use Rattle.std.proofs.lemmas.Grind.{common_steps}
use Rattle.gm_table.specs.Blocks.{lists_of, rows_of}
use Rattle.gm_table.specs.Cursor.{rows_after}
use Rattle.gm_table.proofs.Places.{after-from, after-is}
use Rattle.gm_table.proofs.BlockPlaces.{begun_until, block_within}
use Rattle.gm_table.proofs.blocks.cursor.BlockCursor.reach.Goals as goal

pub returns-in-Some : goal.returns-in-Some
returns-in-Some c =
    let from = c.args.self.now.from in
    let low = c.args.low.now in
    let up : is_le (slice_cmp nat_cmp from low) ≡ true = grind (arith, common_steps) in
    record {
      place = c.in-Some.ensures.place;
      rows = c.in-Some.ensures.rows ∙ ap (rows_after low) c.requires.at.rows
          ∙ after-is from low (rows_of (lists_of c.args.blocks.now)) up c.requires.rising;
    }

-- in a later block
pub place_past-requires-clause-within : goal.place_past-requires-clause-within
place_past-requires-clause-within c =
    block_within c.args.self.now.place.block c.args.self.now.place.row c.args.blocks.now
    c.requires.at.place

pub place_past-requires-clause-begun : goal.place_past-requires-clause-begun
place_past-requires-clause-begun c =
    let from = c.args.self.now.from in
    let low = c.args.low.now in
    let all = rows_of (lists_of c.args.blocks.now) in
    let n = c.args.self.now.place.block in
    let row = c.args.self.now.place.row in
    let up : is_le (slice_cmp nat_cmp from low) ≡ true = grind (arith, common_steps) in
    let few : n ≤ length c.args.blocks.now =
    block_within n row c.args.blocks.now c.requires.at.place in
    λ k d _ less. begun_until from low c.args.blocks.now c.requires.each n row
    (c.requires.at.rows ∙ sym (after-from from all c.requires.rising)) up k d less
    (omega (arith, less, few))

pub returns : goal.returns
returns c = record {
  place = c.place_past.ensures.place;
  rows = c.place_past.ensures.from
      ∙ after-from c.args.low.now (rows_of (lists_of c.args.blocks.now)) c.requires.rising;
}
