use Rattle.std.proofs.Common.{◌||◌, ap, ◌∙◌}
use Rattle.std.specs.Str.{bytes_eq}
use Rattle.gm_scan.specs.Texts.{has_text}
use Rattle.gm_scan.proofs.Adding.{text_more}
use Rattle.gm_scan.proofs.literals.SortedLiterals.add.Goals as goal

pub returns-in_ok-add-in-Text : goal.returns-in_ok-add-in-Text
returns-in_ok-add-in-Text c =
    text_more c.args.self.now c.add.new.self c.in-Text.text c.args.literal.now c.in-Text.is
    (λ other. c.in_ok-add-in-Text.ensures other
    ∙ ap (λ text. has_text c.args.self.now.texts other || bytes_eq other text)
    c.as_bytes.ensures.bytes)
