use Rattle.std.proofs.Common.{sym, ◌∙◌}
use Rattle.gm_filter.proofs.Characters.{matches_texts}
use Rattle.gm_filter.proofs.wildcards.like.Goals as goal

pub returns-in-Ends : goal.returns-in-Ends
returns-in-Ends c =
    c.in-Ends.ensures
    ∙ matches_texts c.args.pattern.now c.args.text.now c.requires.pattern_is_text
    c.requires.text_is_text

pub returns-in-Percent : goal.returns-in-Percent
returns-in-Percent c =
    c.matches_some_suffix.ensures ∙ sym c.in-Percent.ensures.same
    ∙ matches_texts c.args.pattern.now c.args.text.now c.requires.pattern_is_text
    c.requires.text_is_text
