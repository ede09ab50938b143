use Rattle.std.proofs.Common.{◌≡◌, ℕ, Bool, true, false, List, [], ◌∷◌, refl, sym, ap, ◌∙◌, Ok}
use Rattle.std.proofs.Common.{append-nil}
use Rattle.std.specs.Prelude.{codes, if◌then◌else◌, length}
use Rattle.std.specs.List.{list_any}
use Rattle.std.specs.Str.{is_utf8}
use Rattle.std.proofs.lemmas.Bool.{lt-ltb}
use Rattle.gm_base.proofs.Booleans.{neither_of}
use Rattle.gm_base.specs.declared.code.Code.TheVariants.{E01, E02, E03}
use Rattle.gm_types.specs.Specification.{Specification}
use Rattle.gm_types.specs.Words.{same_text}
use Rattle.gm_script.proofs.LaidLines.{past_laid, without_end, is_short, read_laid}
use Rattle.gm_script.specs.Laid.{IsOnLine, command_words}
use Rattle.gm_script.specs.Line.{says_nothing, without_return}
use Rattle.gm_script.specs.Order as order
use Rattle.gm_script.specs.Reading.{reading, reading_of, command_in, command_of, create_of, put_of}
use Rattle.gm_script.specs.Reading.{delete_of, remove_of, modify_of, describe_of, ask_of, asks}
use Rattle.gm_script.specs.Reading.{refused}
use Rattle.gm_script.specs.Words.{past_blanks}
use Rattle.gm_script.proofs.laws.lines_are_read.Goals as goal

of_text : (types : List Specification) (text line : List ℕ) → IsOnLine text line
    → reading types line ≡ reading_of types text
of_text types text line h =
    is_short types line h.short ∙ ap (reading_of types) (without_end text line h)

silent : (types : List Specification) (text line : List ℕ) → IsOnLine text line
    → says_nothing (past_blanks text) ≡ true → reading types line ≡ Ok order.nothing
silent types text line h e =
    of_text types text line h
    ∙ ap (λ b. if b then Ok order.nothing else if is_utf8 text then command_in types text
    else refused E02) e

skip : {R : Type 0} (b : Bool) (x y : R) → b ≡ false → (if b then x else y) ≡ y
skip b x y e = ap (λ b. if b then x else y) e

none_of : (types : List Specification) (word name rest : List ℕ)
    → list_any (same_text word) command_words ≡ false
    → command_of types word name rest ≡ refused E03
none_of types word name rest e =
    let a = neither_of (same_text word (codes "create")) _ e in
    let b = neither_of (same_text word (codes "put")) _ a.1 in
    let c = neither_of (same_text word (codes "delete")) _ b.1 in
    let d = neither_of (same_text word (codes "remove")) _ c.1 in
    let f = neither_of (same_text word (codes "modify")) _ d.1 in
    let g = neither_of (same_text word (codes "query")) _ f.1 in
    let h = neither_of (same_text word (codes "count")) _ g.1 in
    let i = neither_of (same_text word (codes "explain")) _ h.1 in
    let j = neither_of (same_text word (codes "describe")) _ i.1 in
    skip (same_text word (codes "create")) (create_of types name rest) _ a.0
    ∙ skip (same_text word (codes "put")) (put_of types name rest) _ b.0
    ∙ skip (same_text word (codes "delete")) (delete_of types name rest) _ c.0
    ∙ skip (same_text word (codes "remove")) (remove_of types name rest) _ d.0
    ∙ skip (same_text word (codes "modify")) (modify_of types name rest) _ f.0
    ∙ skip (same_text word (codes "describe")) (describe_of types name rest) _ j.0
    ∙ skip (same_text word (codes "query")) (asks order.query (ask_of types name rest)) _ g.0
    ∙ skip (same_text word (codes "count")) (asks order.count (ask_of types name rest)) _ h.0
    ∙ skip (same_text word (codes "explain")) (asks order.explain (ask_of types name rest)) _ i.0

pub returns-clause-long : goal.returns-clause-long
unfolding reading
returns-clause-long c = λ types line h.
    ap (λ b. if b then refused E01 else reading_of types (without_return line))
    (lt-ltb 1048576 (length line) h)

pub returns-clause-blank : goal.returns-clause-blank
returns-clause-blank c = λ types text line h blanks.
    silent types text line h (ap (λ t. says_nothing (past_blanks t)) (sym (append-nil text))
    ∙ ap says_nothing (past_laid text [] blanks refl))

pub returns-clause-comment : goal.returns-clause-comment
returns-clause-comment c = λ types blanks more text line h are e.
    silent types text line h (ap (λ t. says_nothing (past_blanks t)) e
    ∙ ap says_nothing (past_laid blanks (35 ∷ more) are refl))

pub returns-clause-bytes : goal.returns-clause-bytes
returns-clause-bytes c = λ types blanks more text line byte h are shown other e wrong.
    let says : says_nothing (past_blanks text) ≡ false
    = ap (λ t. says_nothing (past_blanks t)) e
    ∙ ap says_nothing (past_laid blanks (byte ∷ more) are shown) ∙ other in
    of_text types text line h
    ∙ ap (λ b. if b then Ok order.nothing else if is_utf8 text then command_in types text
    else refused E02) says
    ∙ ap (λ b. if b then command_in types text else refused E02) wrong

pub returns-clause-unknown : goal.returns-clause-unknown
returns-clause-unknown c = λ types word name rest line h is told none.
    read_laid types word name rest line is told h ∙ none_of types word name rest none
