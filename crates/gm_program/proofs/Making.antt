-- Made scripts, served in two parts.
use Rattle.std.proofs.Common.{◌≡◌, ℕ, zero, suc, ◌+◌, List, [], ◌∷◌, ◌++◌, codes}
use Rattle.std.proofs.Common.{length, Option, Some, None, refl, sym, ap, ◌∙◌, subst}
use Rattle.std.proofs.lemmas.List.{append-nil}
use Rattle.std.proofs.lemmas.Option.{none-some}
use Rattle.std.specs.Fmt.{decimal}
use Rattle.gm_calendar.specs.Spelling.{instant_text}
use Rattle.gm_engine_rows.specs.State.{State}
use Rattle.gm_geom.specs.Number.{fixed_text}
use Rattle.gm_program.specs.declared.options.Made.{Made}
use Rattle.gm_program.specs.declared.pending.Pending.{Pending}
use Rattle.gm_program.specs.declared.pending.Pending.TheVariants.{Nothing}
use Rattle.gm_program.specs.declared.setting.Setting.{Setting}
use Rattle.gm_program.specs.Generator.{line, behind, drawn, centred, second_of_2020, place_text}
use Rattle.gm_program.specs.Generator.{put_line, put_lines, first_line, loading, counting}
use Rattle.gm_program.specs.Generator.{generated_script}
use Rattle.gm_program.specs.Lines.{complete_from, partial_from, lines_of, last_line}
use Rattle.gm_program.specs.Machine.{Machine, machine_at, after, replies, output, state_after}
use Rattle.gm_program.specs.Script.{Loads, made_output}
use Rattle.gm_program.specs.Serve.{Moment, moment, KeptAt, Serves, Closes, closing, WritesPart}
use Rattle.gm_program.proofs.Cutting.{partial_from-append}
use Rattle.gm_program.proofs.Streaming.{closes_on, closing-append, lines_of-append, part_behind}
use Rattle.gm_program.proofs.Streaming.{part_of_more, part_same}

-- ---- the part that stores ends with the end of a line
-- nothing comes after the last line end, whatever was before
IsEnded : List ℕ → Type 0
IsEnded bytes = (held : List ℕ) → partial_from held bytes ≡ []

ended_behind : (a b : List ℕ) → IsEnded b → IsEnded (a ++ b)
unfolding IsEnded
ended_behind a b ended held = partial_from-append held a b ∙ ended (partial_from held a)

line_ended : (text : List ℕ) → IsEnded (line text)
unfolding IsEnded
line_ended text held = partial_from-append held text (10 ∷ [])

place_ended : (x y : ℕ) → IsEnded (place_text x y)
place_ended x y =
    ended_behind (codes ",POINT (") _ (ended_behind (fixed_text (centred 1800000000 x)) _
    (ended_behind (codes " ") _
    (ended_behind (fixed_text (centred 900000000 y)) _ (line_ended (codes ")")))))

put_ended : (number state : ℕ) → IsEnded (put_line number state)
unfolding put_line
put_ended number state =
    ended_behind (codes "put gen g") _ (ended_behind (decimal number) _
    (ended_behind (codes ",n") _ (ended_behind (decimal (drawn 100 (behind 1 state))) _
    (ended_behind (codes ",") _ (ended_behind (decimal (drawn 1000 (behind 2 state))) _
    (ended_behind (codes ",") _
    (ended_behind (instant_text (second_of_2020 (drawn 31536000 (behind 3 state)))) _
    (place_ended (drawn 3600000001 (behind 4 state)) (drawn 1800000001 (behind 5 state))))))))))

puts_ended : (count number state : ℕ) → partial_from [] (put_lines count number state) ≡ []
unfolding IsEnded
puts_ended zero number state = refl
puts_ended (suc count) number state =
    partial_from-append [] (put_line number state) (put_lines count (number + 1) (behind 5 state))
    ∙ ap (λ held. partial_from held (put_lines count (number + 1) (behind 5 state)))
    (put_ended number state [])
    ∙ puts_ended count (number + 1) (behind 5 state)

pub loading_ended : (seed count : ℕ) → partial_from [] (loading seed count) ≡ []
unfolding loading IsEnded
loading_ended seed count =
    partial_from-append [] first_line (put_lines count 1 seed)
    ∙ ap (λ held. partial_from held (put_lines count 1 seed))
    (line_ended (codes "create gen name:String:index=true,n:Integer,dtg:Date,*geom:Point") [])
    ∙ puts_ended count 1 seed

pub serves_as : (p : Setting) (m : Machine) (xs ys : List (List ℕ)) (a b : Moment) → xs ≡ ys
    → Serves p m xs a b → Serves p m ys a b
serves_as p m xs ys a b is serves = subst (λ lines. Serves p m lines a b) is serves

-- ---- lines of two scripts, the first of which ends with the end of a line
lines_whole : (xs : List ℕ) → partial_from [] xs ≡ [] → lines_of xs ≡ complete_from [] xs
lines_whole xs ended =
    ap (λ held. complete_from [] xs ++ last_line held) ended ∙ append-nil (complete_from [] xs)

pub loading_lines : (seed count : ℕ)
    → complete_from [] (loading seed count) ≡ lines_of (loading seed count)
loading_lines seed count = sym (lines_whole (loading seed count) (loading_ended seed count))

lines_both : (xs ys : List ℕ) → partial_from [] xs ≡ []
    → lines_of (xs ++ ys) ≡ lines_of xs ++ lines_of ys
lines_both xs ys ended =
    lines_of-append xs ys
    ∙ ap (λ held. complete_from [] xs
    ++ (complete_from held ys ++ last_line (partial_from held ys))) ended
    ∙ ap (λ lines. lines ++ lines_of ys) (sym (lines_whole xs ended))

made_lines : (seed count : ℕ)
    → lines_of (generated_script seed count) ≡ lines_of (loading seed count) ++ lines_of counting
unfolding generated_script
made_lines seed count = lines_both (loading seed count) counting (loading_ended seed count)

-- ---- the machine between the parts
machine_is : (m : Machine) → m ≡ machine_at m.state
machine_is m = nothing_waits m.state m.pending
  where
    nothing_waits : (s : State) (pending : Pending)
        → ◌≡◌ {A = Machine} (record { state = s; pending = pending }) (machine_at s)
    nothing_waits s Nothing = refl

-- after the first part nothing is waited for
pub loaded : (p : Setting) (s : State) (script : List ℕ)
    → after p (machine_at s) (lines_of script) ≡ machine_at (state_after p s script)
loaded p s script = machine_is (after p (machine_at s) (lines_of script))

-- the output of both parts is that of the first, and then that of the second
pub output_in_parts : (p : Setting) (s : State) (made : Made)
    → output p s (generated_script made.seed made.count)
    ≡ replies p (machine_at s) (lines_of (loading made.seed made.count)) ++ made_output p s made
output_in_parts p s made =
    let first = lines_of (loading made.seed made.count) in
    ap (closing p (machine_at s)) (made_lines made.seed made.count)
    ∙ sym (closing-append p (machine_at s) first (lines_of counting))
    ∙ ap (λ m. replies p (machine_at s) first ++ closing p m (lines_of counting))
    (loaded p s (loading made.seed made.count))

-- ---- what is not written
abbrev pub unheard : Moment → Moment
unheard now = moment now.types now.rows now.pending now.tally None

closes_unheard : (p : Setting) (m : Machine) (lines : List (List ℕ)) (b c : Moment)
    → Closes p m lines b c → Closes p m lines (unheard b) (unheard c)
closes_unheard p m lines b c closes =
    record {
      keeps = closes.keeps;
      tally = closes.tally;
      written = λ before is. absurd (none-some before is);
    }

-- ---- a script at hand
-- all lines that are ended, and then the last and the end
pub whole_served : (p : Setting) (m : Machine) (script : List ℕ) (a b c : Moment)
    → Serves p m (complete_from [] script) a b
    → Closes p (after p m (complete_from [] script)) (last_line (partial_from [] script)) b c
    → Closes p m (lines_of script) a c
whole_served p m script a b c one two =
    closes_on p m (complete_from [] script) (last_line (partial_from [] script)) a b c one two

-- a part of the replies to the lines that are ended
pub part_of_whole : (p : Setting) (m : Machine) (script : List ℕ) (w0 w1 : Option (List ℕ))
    → WritesPart (replies p m (complete_from [] script)) w0 w1
    → WritesPart (closing p m (lines_of script)) w0 w1
part_of_whole p m script w0 w1 part =
    part_same _ _ _ _
    (closing-append p m (complete_from [] script) (last_line (partial_from [] script)))
    (part_of_more (replies p m (complete_from [] script))
    (closing p (after p m (complete_from [] script)) (last_line (partial_from [] script))) w0 w1
    part)

-- all of them, and a part of what comes then
pub part_at_end : (p : Setting) (m : Machine) (script : List ℕ) (a b : Moment) (w : Option (List ℕ))
    → Serves p m (complete_from [] script) a b
    → WritesPart (closing p (after p m (complete_from [] script))
    (last_line (partial_from [] script))) b.written w
    → WritesPart (closing p m (lines_of script)) a.written w
part_at_end p m script a b w one part =
    part_same _ _ _ _
    (closing-append p m (complete_from [] script) (last_line (partial_from [] script)))
    (part_behind (replies p m (complete_from [] script))
    (closing p (after p m (complete_from [] script)) (last_line (partial_from [] script)))
    a.written b.written w one.written part)

-- ---- both parts
-- both parts were served, the first without a word
pub loads : (p : Setting) (s : State) (made : Made) (a b c : Moment) (flushed : ℕ)
    → KeptAt (machine_at s) a
    → Serves p (machine_at s) (lines_of (loading made.seed made.count)) (unheard a) (unheard b)
    → ((m : Machine) → KeptAt m b → Closes p m (lines_of counting) b c)
    → ((bytes : List ℕ) → c.written ≡ Some bytes → flushed ≡ length bytes)
    → Loads p s made c.types c.rows a.tally c.tally b.written c.written flushed
loads p s made a b c flushed kept first second all =
    let m = after p (machine_at s) (lines_of (loading made.seed made.count)) in
    let closes : Closes p m (lines_of counting) b c = second m first.keeps in
    let heard : Closes p (machine_at (state_after p s (loading made.seed made.count)))
    (lines_of counting) b c =
    subst (λ n. Closes p n (lines_of counting) b c)
    (loaded p s (loading made.seed made.count)) closes in
    let both : Closes p (machine_at s) (lines_of (generated_script made.seed made.count))
    (unheard a) (unheard c) =
    rw (made_lines made.seed made.count)
    (closes_on p (machine_at s) (lines_of (loading made.seed made.count)) (lines_of counting)
    (unheard a) (unheard b) (unheard c) first
    (closes_unheard p m (lines_of counting) b c closes)) in record {
      replies = λ before
          is. (
            heard.written before is,
            all (before ++ made_output p s made) (heard.written before is),
          );
      counted = both.tally;
      store = both.keeps.store;
    }

-- a part of the second was written
pub part_heard : (p : Setting) (s : State) (made : Made) (b : Moment) (a : Moment)
    (w : Option (List ℕ))
    → Serves p (machine_at s) (lines_of (loading made.seed made.count)) a (unheard b)
    → ((m : Machine) → KeptAt m b → WritesPart (closing p m (lines_of counting)) b.written w)
    → WritesPart (made_output p s made) b.written w
part_heard p s made b a w first second =
    let m = after p (machine_at s) (lines_of (loading made.seed made.count)) in
    subst (λ n. WritesPart (closing p n (lines_of counting)) b.written w)
    (loaded p s (loading made.seed made.count)) (second m first.keeps)
