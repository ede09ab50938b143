use Rattle.std.proofs.Common.{rules, ap, sym, map, option_map, codes, false, List, Option, ℕ, ◌≡◌}
use Rattle.std.proofs.Common.{◌∙◌}
use Rattle.clap.specs.Words.{found_of, matches_of, rows_of}
use Rattle.gm_program.specs.Words.{gm_command, has_fault, options_from, value_of}
use Rattle.gm_program.proofs.Found.{options_are, value_is}
use Rattle.gm_program.proofs.words.read_words.Goals as goal

pub returns-in-Some : goal.returns-in-Some
returns-in-Some c =
    let words : List (List ℕ) = c.args.words.now in
    let found = found_of c.in_ok-matches.matches in
    let words_are : map (λ s. s.now) c.as_slice.result.now ≡ words = search rules in
    let fine : has_fault words ≡ false =
    ap has_fault (sym words_are) ∙ c.in_ok-matches.ensures.ok.0 in
    let rows : rows_of found ≡ matches_of gm_command words =
    c.in_ok-matches.ensures.ok.1 ∙ ap (matches_of gm_command) words_are in
    let generate : Option (List ℕ) = option_map (λ s. s.now) c.get_str.result in
    let generate_is : generate ≡ value_of (codes "generate") words =
    value_is found words (codes "generate") generate rows (search rules) in
    sym (options_are words generate fine generate_is)
    ∙ ap options_from (sym c.generate_in.ensures ∙ c.in-Some.is)

pub returns : goal.returns
returns c =
    let words : List (List ℕ) = c.args.words.now in
    let found = found_of c.in_ok-matches.matches in
    let words_are : map (λ s. s.now) c.as_slice.result.now ≡ words = search rules in
    let fine : has_fault words ≡ false =
    ap has_fault (sym words_are) ∙ c.in_ok-matches.ensures.ok.0 in
    let rows : rows_of found ≡ matches_of gm_command words =
    c.in_ok-matches.ensures.ok.1 ∙ ap (matches_of gm_command) words_are in
    let generate : Option (List ℕ) = option_map (λ s. s.now) c.get_str.result in
    let generate_is : generate ≡ value_of (codes "generate") words =
    value_is found words (codes "generate") generate rows (search rules) in
    sym (options_are words generate fine generate_is)
    ∙ ap options_from (sym c.generate_in.ensures ∙ c.in-None.is)
