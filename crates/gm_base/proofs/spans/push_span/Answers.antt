use Rattle.std.proofs.Common.{◌≡◌, ◌++◌, ◌∙◌, length, sym, ap, subst, arith}
use Rattle.std.proofs.lemmas.Grind.{common_steps}
use Rattle.gm_base.specs.declared.spans.Ends.{Ends}
use Rattle.gm_base.specs.Spans.{joined, AreEnds, spans_from}
use Rattle.gm_base.proofs.Buffers.{spans-push, ends-push}
use Rattle.gm_base.proofs.spans.push_span.Goals as goal

pub returns-clause-ends : goal.returns-clause-ends
returns-clause-ends c =
    let span : Ends = record { low = c.len-middle.result; high = c.len.result } in
    let one : c.append_parts.new.bytes.items ≡ c.args.bytes.now.items ++ joined c.args.low.now =
    c.in_ok-append_parts.ensures.ok in
    let two : c.append_parts-2.new.bytes.items
    ≡ c.append_parts.new.bytes.items ++ joined c.args.high.now =
    c.in_ok-append_parts-2.ensures.ok in
    let end : c.len.result ≡ length c.append_parts-2.new.bytes.items =
    grind (arith, common_steps) in
    subst (λ n. AreEnds 0 c.push.new.self.items n) end
    (subst (λ ends. AreEnds 0 ends c.len.result) (sym c.in_ok-push.ensures.items)
    (ends-push 0 (length c.args.bytes.now.items) c.args.ends.now.items span c.requires
    (grind (arith, common_steps)) (grind (arith, common_steps))))

pub returns-clause-spans : goal.returns-clause-spans
returns-clause-spans c =
    let span : Ends = record { low = c.len-middle.result; high = c.len.result } in
    let one : c.append_parts.new.bytes.items ≡ c.args.bytes.now.items ++ joined c.args.low.now =
    c.in_ok-append_parts.ensures.ok in
    let two : c.append_parts-2.new.bytes.items
    ≡ c.append_parts.new.bytes.items ++ joined c.args.high.now =
    c.in_ok-append_parts-2.ensures.ok in
    ap (spans_from 0 c.push.new.self.items)
    (two ∙ ap (λ bytes. bytes ++ joined c.args.high.now) one)
    ∙ ap (λ ends. spans_from 0 ends
    (c.args.bytes.now.items ++ joined c.args.low.now ++ joined c.args.high.now))
    c.in_ok-push.ensures.items
    ∙ spans-push 0 c.args.ends.now.items c.args.bytes.now.items (joined c.args.low.now)
    (joined c.args.high.now) span c.requires (grind (arith, common_steps))
    (grind (arith, common_steps))
