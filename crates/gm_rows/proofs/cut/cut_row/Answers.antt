use Rattle.std.proofs.Common.{◌+◌, ◌∙◌, List, ℕ, drop, refl, sym, ap, arith}
use Rattle.std.specs.Prelude.{slice_range}
use Rattle.gm_rows.specs.Reader.{cut_from}
use Rattle.gm_rows.proofs.PlainRows.{at_comma, at_other}
use Rattle.gm_rows.proofs.Slices.{seen, seen-push}
use Rattle.gm_rows.proofs.cut.cut_row.Goals as goal
use Rattle.gm_rows.proofs.cut.cut_row.Goals.{then-byte-eq44+in_ok-push, else-byte-eq44}

pub bytes-preserved : goal.bytes-preserved
bytes-preserved c = elim c.if-byte-eq44.branch [
  | then-byte-eq44+in_ok-push w ↦ rw (w.fields-is, w.start-is) record {
    low = omega arith;
    same = c.bytes.invariant.same
        ∙ at_comma c.args.row.now _ (seen c.bytes.fields.items) c.bytes.start c.bytes.index
        c.bytes-test.true w.if-byte-eq44.true refl
        ∙ ap (λ (fs : List (List ℕ)). cut_from fs
        (slice_range c.args.row.now (c.bytes.index + 1) (c.bytes.index + 1))
        (drop (c.bytes.index + 1) c.args.row.now))
        (sym (seen-push c.bytes.fields.items w.push.new.self.items _ w.in_ok-push.ensures.items));
  }
  | else-byte-eq44 w ↦ rw (w.fields-is, w.start-is) record {
    low = let low = c.bytes.invariant.low in omega (arith, low);
    same = c.bytes.invariant.same
        ∙ at_other c.args.row.now (seen c.bytes.fields.items) c.bytes.start c.bytes.index
        c.bytes.invariant.low c.bytes-test.true w.if-byte-eq44.false;
  }
]
