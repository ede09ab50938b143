use Rattle.std.proofs.Common.{◌≡◌, ◌<◌, ◌∙◌, length, get_or, sym, ap, arith}
use Rattle.std.proofs.lemmas.Grind.{common_steps}
use Rattle.std.specs.Prelude.{slice_range}
use Rattle.gm_base.specs.Spans.{Span, start_at}
use Rattle.gm_base.proofs.Buffers.{length-spans, ends-at, spans-at, same_pair}
use Rattle.gm_base.proofs.spans.SpanList.get.Goals as goal

pub start_of-start-requires : goal.start_of-start-requires
start_of-start-requires c =
    let count = length-spans 0 c.self.inside.ends.items c.self.inside.bytes.items in
    let view = ap length c.self.view_is in
    grind (arith, common_steps, count, view)

pub index-requires : goal.index-requires
index-requires c =
    let count = length-spans 0 c.self.inside.ends.items c.self.inside.bytes.items in
    let view = ap length c.self.view_is in
    grind (arith, common_steps, count, view)

pub cut-requires : goal.cut-requires
cut-requires c =
    let count = length-spans 0 c.self.inside.ends.items c.self.inside.bytes.items in
    let view = ap length c.self.view_is in
    let inside : c.args.i < length c.self.inside.ends.items =
    grind (arith, common_steps, count, view) in
    let start : c.start_of-start.result ≡ start_at 0 c.args.i c.self.inside.ends.items =
    c.start_of-start.ensures ∙ ap (start_at 0 c.args.i) c.deref.ensures.value in
    let order = ends-at 0 (length c.self.inside.bytes.items) c.args.i c.self.inside.ends.items
    c.index.result.now inside c.index.ensures c.self.invariant in
    let bytes = ap length c.deref-2.ensures.value in
    (omega (arith, start, order.0), order.1, omega (arith, order.2, bytes))

pub returns : goal.returns
returns c =
    let count = length-spans 0 c.self.inside.ends.items c.self.inside.bytes.items in
    let view = ap length c.self.view_is in
    let inside : c.args.i < length c.self.inside.ends.items =
    grind (arith, common_steps, count, view) in
    let start : c.start_of-start.result ≡ start_at 0 c.args.i c.self.inside.ends.items =
    c.start_of-start.ensures ∙ ap (start_at 0 c.args.i) c.deref.ensures.value in
    let span : Span = (c.cut.result.0.now, c.cut.result.1.now) in
    same_pair _ _ _ _
    (c.cut.ensures.low
    ∙ ap (λ bytes. slice_range bytes c.start_of-start.result c.index.result.now.low)
    c.deref-2.ensures.value
    ∙ ap (λ s. slice_range c.self.inside.bytes.items s c.index.result.now.low) start)
    (c.cut.ensures.high
    ∙ ap (λ bytes. slice_range bytes c.index.result.now.low c.index.result.now.high)
    c.deref-2.ensures.value)
    ∙ sym (spans-at 0 c.args.i c.self.inside.ends.items c.self.inside.bytes.items c.index.result.now
    span inside c.index.ensures)
    ∙ ap (λ spans. get_or spans c.args.i span) c.self.view_is
