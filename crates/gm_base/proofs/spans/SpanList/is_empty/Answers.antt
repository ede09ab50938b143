use Rattle.std.proofs.Common.{◌≡◌, [], ◌∙◌, ap, sym, arith}
use Rattle.std.proofs.lemmas.Grind.{common_steps}
use Rattle.gm_base.specs.Spans.{spans_from}
use Rattle.gm_base.proofs.Buffers.{none-from}
use Rattle.gm_base.proofs.spans.SpanList.is_empty.Goals as goal

pub returns : goal.returns
returns c = (
  λ empty. let none : c.self.inside.ends.items ≡ [] = grind (arith, common_steps) in
      sym c.self.view_is ∙ ap (λ ends. spans_from 0 ends c.self.inside.bytes.items) none,
  λ none. let gone : c.self.inside.ends.items ≡ [] =
      none-from 0 c.self.inside.ends.items c.self.inside.bytes.items (c.self.view_is ∙ none) in
      grind (arith, common_steps),
)
