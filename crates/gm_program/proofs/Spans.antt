-- What the spans of a part have.
use Rattle.std.proofs.Common.{◌≡◌, ◌≤◌, ℕ, List, [], refl, sym, subst}
use Rattle.gm_base.specs.Spans.{Span}
use Rattle.gm_table.specs.Apart.{AreApart}
use Rattle.gm_table.specs.Sorted.{Rows}
use Rattle.gm_table.specs.Spans.{rows_in}
use Rattle.gm_types.specs.Specification.{Specification}
use Rattle.gm_scan.specs.Held.{Hold, matching}
use Rattle.gm_plan.specs.Inside.{read_spans}
use Rattle.gm_engine_rows.specs.State.{State}
use Rattle.gm_engine_rows.specs.Rows.{rows_of}
use Rattle.gm_strategy.specs.Choice.{Chosen, IsServed}
use Rattle.gm_program.specs.Collecting.{collected}
use Rattle.gm_program.specs.Spans.{AreReadFor}
use Rattle.gm_program.specs.Store.{IsTypeOf}
use Rattle.gm_program.proofs.Bound.{Found, Stand}
use Rattle.gm_program.proofs.Collected.{collects_none, collects_more}
use Rattle.gm_program.proofs.Inside.{At, KeysInside, SameBytes, HoldSome, OfIndex, index_applies}
use Rattle.gm_program.proofs.Inside.{rows_are_of_type, are_of_features, part_held, length_read}
use Rattle.gm_program.proofs.Once.{AreOnce, found_once, collected_once}
use Rattle.gm_program.proofs.Planned.{are_named}

pub are_read : At → Found → Stand → KeysInside → SameBytes → HoldSome
    → (s : State) (t : Specification) (of_index : OfIndex t) (part : Chosen) (target : ℕ)
    (rows : Rows) (spans : List Span)
    → IsTypeOf s t rows → IsServed t part → 1 ≤ target
    → AreApart (read_spans t part.index part.wanted target)
    → spans ≡ read_spans t part.index part.wanted target
    → AreReadFor s t part target rows spans
are_read at found stand inside same some s t of_index part target rows spans own served
    least apart is =
    let read = read_spans t part.index part.wanted target in
    let held = part_held at found stand inside same some s t of_index part target rows spans own
    served least is in
    let fs = matching part.wanted held.0 in
    let there : Hold t (rows_in read (rows_of s)) held.0 =
    subst (λ (ss : List Span). Hold t (rows_in ss (rows_of s)) held.0) is
    (subst (λ (rs : Rows). Hold t (rows_in spans rs) held.0) own.same_rows held.1) in
    let once : AreOnce fs = found_once same s t part.index read part.wanted held.0 apart
    (rows_are_of_type at found s t of_index part.index part.wanted target own.state own.typed
    (index_applies t part.index part.wanted served.applies)) there in
    record {
      apart = subst AreApart (sym is) apart;
      of_type = are_of_features at found s t of_index part target rows spans own served is;
      features = held.0;
      held = held.1;
      finds = held.2;
      once = record {
        held = collected [] fs;
        collects = collects_more s t.number [] part.wanted fs [] (collected [] fs)
            (are_named s t own.state own.typed) held.2 (collects_none s t.number [] refl) refl;
        are = sym (collected_once fs once);
      };
      examined = length_read s t part target rows spans own is apart;
    }
