use Rattle.std.proofs.Common.{◌≡◌, ◌++◌, ◌∙◌, List, ℕ, length, take, sym, ap, subst, arith}
use Rattle.std.proofs.lemmas.Grind.{common_steps}
use Rattle.gm_base.specs.declared.spans.Ends.{Ends}
use Rattle.gm_base.specs.Spans.{AreEnds, spans_from}
use Rattle.gm_base.proofs.Buffers.{spans-push, ends-push}
use Rattle.gm_base.proofs.spans.push_prefixed.Goals as goal

pub returns-clause-ends : goal.returns-clause-ends
returns-clause-ends g c =
    let span : Ends = record { low = c.len-middle.result; high = c.len.result } in
    let low : List ℕ = c.args.prefix.now ++ c.args.low.now in
    let high : List ℕ = c.args.prefix.now ++ take c.args.count c.args.high.now in
    let one : c.append_whole.new.bytes.items ≡ c.args.bytes.now.items ++ low =
    c.in_ok-append_whole.ensures.ok in
    let two : c.append_prefixed.new.bytes.items ≡ c.append_whole.new.bytes.items ++ high =
    c.in_ok-append_prefixed.ensures.ok in
    let end : c.len.result ≡ length c.append_prefixed.new.bytes.items =
    grind (arith, common_steps) in
    subst (λ n. AreEnds 0 c.push.new.self.items n) end
    (subst (λ ends. AreEnds 0 ends c.len.result) (sym c.in_ok-push.ensures.items)
    (ends-push 0 (length c.args.bytes.now.items) c.args.ends.now.items span c.requires.ends
    (grind (arith, common_steps)) (grind (arith, common_steps))))

pub returns-clause-spans : goal.returns-clause-spans
returns-clause-spans g c =
    let span : Ends = record { low = c.len-middle.result; high = c.len.result } in
    let low : List ℕ = c.args.prefix.now ++ c.args.low.now in
    let high : List ℕ = c.args.prefix.now ++ take c.args.count c.args.high.now in
    let one : c.append_whole.new.bytes.items ≡ c.args.bytes.now.items ++ low =
    c.in_ok-append_whole.ensures.ok in
    let two : c.append_prefixed.new.bytes.items ≡ c.append_whole.new.bytes.items ++ high =
    c.in_ok-append_prefixed.ensures.ok in
    ap (spans_from 0 c.push.new.self.items) (two ∙ ap (λ bytes. bytes ++ high) one)
    ∙ ap (λ ends. spans_from 0 ends (c.args.bytes.now.items ++ low ++ high))
    c.in_ok-push.ensures.items
    ∙ spans-push 0 c.args.ends.now.items c.args.bytes.now.items low high span c.requires.ends
    (grind (arith, common_steps)) (grind (arith, common_steps))
