use Rattle.std.proofs.Common.{◌≡◌, ◌∙◌, ◌++◌, ◌∷◌, ◌<◌, [], length, map, refl, sym, ap, subst}
use Rattle.std.proofs.Common.{arith, append_assoc, length-append}
use Rattle.std.proofs.lemmas.Grind.{common_steps}
use Rattle.std.specs.Prelude.{true, false}
use Rattle.std.specs.List.{AllByRecursion}
use Rattle.gm_table.specs.declared.row.Row.{Row}
use Rattle.gm_table.specs.Sorted.{IsRising}
use Rattle.gm_block.specs.Parts.{row_bytes, rows_bytes, IsShort}
use Rattle.gm_block.specs.Block.{pair_of, IsAbove}
use Rattle.gm_block.proofs.Rising.{rising-none, rising-push, above-from}
use Rattle.gm_block.proofs.Spellings.{same_row, short-push, rows_bytes-push, next_row, no_rest}
use Rattle.gm_block.proofs.Spellings.{too_few}
use Rattle.gm_block.proofs.block.read_rows.Goals as goal

pub returns-then-bytes-count : goal.returns-then-bytes-count
returns-then-bytes-count c =
    λ rows are. too_few c.args.count rows c.args.bytes.now are c.if-bytes-count.true

pub rows-init : goal.rows-init
rows-init c = record {
  count = ap length c.in_ok-rows.ensures.items;
  rising = subst (λ rows. IsRising (map pair_of rows)) (sym c.in_ok-rows.ensures.items) rising-none;
  short = subst (AllByRecursion IsShort) (sym c.in_ok-rows.ensures.items) tt;
  spelled = sym (ap (λ rows. rows_bytes rows ++ c.args.bytes.now) c.in_ok-rows.ensures.items);
}

pub returns-in_default : goal.returns-in_default
returns-in_default c = λ rows are.
    let few : length c.rows.rows.items < c.args.count =
    omega (arith, c.rows.invariant.count, c.rows-test.true) in
    let next = next_row c.args.count c.rows.rows.items rows c.rows.rest.now c.args.bytes.now are
    c.rows.invariant.short few c.rows.invariant.spelled in
    c.in_default.ensures next.row (rows_bytes next.later) next.short next.spelled

pub returns-then-not-is_above : goal.returns-then-not-is_above
returns-then-not-is_above c = λ rows are.
    let read = c.rows.rows.items in
    let few : length read < c.args.count =
    omega (arith, c.rows.invariant.count, c.rows-test.true) in
    let next = next_row c.args.count read rows c.rows.rest.now c.args.bytes.now are
    c.rows.invariant.short few c.rows.invariant.spelled in
    let row : Row = record { key = c.in-Some.row.key.now; bytes = c.in-Some.row.bytes.now } in
    let same = same_row next.row row (rows_bytes next.later) c.in-Some.later.now next.short
    c.in-Some.ensures.1 (sym next.spelled ∙ c.in-Some.ensures.0) in
    let above : IsAbove read next.row.key =
    above-from read next.row next.later
    (subst (λ all. IsRising (map pair_of all)) next.parts are.rising) in
    let there : IsAbove c.deref.result.now row.key =
    subst (λ some. IsAbove some row.key) (sym c.deref.ensures.value)
    (subst (IsAbove read) same.0 above) in
    let wrong : false ≡ true = c.if-not-is_above.ensures.1 there in
    cc

pub rows-preserved : goal.rows-preserved
rows-preserved c =
    let read = c.rows.rows.items in
    let row : Row = record { key = c.in-Some.row.key.now; bytes = c.in-Some.row.bytes.now } in
    let more : c.push.new.self.items ≡ read ++ row ∷ [] =
    c.in_ok-push.ensures.items ∙ ap (λ (one : Row). read ++ one ∷ []) c.in_ok-owned.ensures in
    let above : IsAbove read row.key =
    subst (λ some. IsAbove some row.key) c.deref.ensures.value
    (c.if-not-is_above.ensures.0 refl) in
    record {
      count = omega (arith, ap length more, length-append read (row ∷ []), c.rows.invariant.count);
      rising = subst (λ rows. IsRising (map pair_of rows)) (sym more)
          (rising-push read row c.rows.invariant.rising above);
      short = subst (AllByRecursion IsShort) (sym more)
          (short-push read row c.rows.invariant.short c.in-Some.ensures.1);
      spelled = c.rows.invariant.spelled ∙ ap (λ rest. rows_bytes read ++ rest) c.in-Some.ensures.0
          ∙ sym (append_assoc (rows_bytes read) (row_bytes row) c.in-Some.later.now)
          ∙ sym (ap (λ some. some ++ c.in-Some.later.now) (rows_bytes-push read row))
          ∙ sym (ap (λ rows. rows_bytes rows ++ c.in-Some.later.now) more);
    }

pub returns-then-not-is_empty : goal.returns-then-not-is_empty
returns-then-not-is_empty c = λ rows are.
    let all : length c.rows.rows.items ≡ c.args.count = grind (arith, common_steps) in
    let none = no_rest c.args.count c.rows.rows.items rows c.rows.rest.now c.args.bytes.now are
    c.rows.invariant.short all c.rows.invariant.spelled in
    grind (arith, common_steps, none)
