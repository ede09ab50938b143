-- Lines that come in pieces.
use Rattle.std.proofs.Common.{◌≡◌, ◌≢◌, ℕ, ◌+◌, ◌<◌, ◌^◌, true, List, [], ◌∷◌, ◌++◌, length, take}
use Rattle.std.proofs.Common.{drop, Option, Some, refl, sym, ap, ◌∙◌, subst, ⊎_elim, arith}
use Rattle.std.proofs.Common.{append_assoc, length-append}
use Rattle.std.specs.Prelude.{◌≤◌, nat_lt, if◌then◌else◌, Result, Ok, Err, OnOk, OnErr}
use Rattle.std.proofs.lemmas.Bool.{cases_lt}
use Rattle.std.proofs.lemmas.Bool.Decides.{nat_tests}
use Rattle.std.proofs.lemmas.List.{append-nil, take_all, length-take-le}
use Rattle.gm_base.proofs.Options.{same_some}
use Rattle.gm_base.specs.Counter.{capped_sum}
use Rattle.gm_base.specs.declared.code.Code.TheVariants.{E01}
use Rattle.gm_engine_rows.specs.State.{State, types_of}
use Rattle.gm_script.specs.Line.{without_return}
use Rattle.gm_script.specs.Reading as script
use Rattle.gm_script.specs.Reading.{reading, reading_of}
use Rattle.gm_script.specs.declared.reply.Reply.{Reply}
use Rattle.gm_program.specs.declared.setting.Setting.{Setting}
use Rattle.gm_program.specs.declared.stop.Stop.{Stop}
use Rattle.gm_program.specs.declared.stop.Stop.TheVariants as stop
use Rattle.gm_program.specs.declared.stop.Stop.TheVariants.{ReadFault, TooLong}
use Rattle.gm_program.specs.Machine.{Machine, Turn, line_turn, turn_of, outcome_of, machine_at}
use Rattle.gm_program.specs.Machine.{said, end_turn, after, replies, examined_by, output}
use Rattle.gm_program.specs.Lines.{complete_from, partial_from, lines_of, last_line, cut}
use Rattle.gm_table.specs.Sorted.{Rows}
use Rattle.gm_program.specs.declared.pending.Pending.{Pending}
use Rattle.gm_program.specs.declared.pending.Pending.TheVariants.{Nothing}
use Rattle.gm_program.specs.Store.{Types, HasState}
use Rattle.gm_program.specs.Serve.{Moment, HasMachine, KeptAt, Takes, Goes, Serves, Closes}
use Rattle.gm_program.specs.Serve.{closing, Writes, WritesPart, Took, Streams, Breaks, Stopped}
use Rattle.gm_program.specs.Script.{Finishes}
use Rattle.gm_program.proofs.Cutting.{complete_from-append, partial_from-append, complete_from-more}
use Rattle.gm_program.proofs.Cutting.{partial_from-more, complete_from-all, cut-none, IsInsideLine}

-- ---- lines one after the other
pub after-append : (p : Setting) (m : Machine) (xs ys : List (List ℕ))
    → after p m (xs ++ ys) ≡ after p (after p m xs) ys
after-append p m [] ys = refl
after-append p m (x ∷ xs) ys = after-append p (line_turn p m x).machine xs ys

pub replies-append : (p : Setting) (m : Machine) (xs ys : List (List ℕ))
    → replies p m (xs ++ ys) ≡ replies p m xs ++ replies p (after p m xs) ys
replies-append p m [] ys = refl
replies-append p m (x ∷ xs) ys =
    ap (λ rest. said (line_turn p m x).reply ++ rest)
    (replies-append p (line_turn p m x).machine xs ys)
    ∙ sym (append_assoc (said (line_turn p m x).reply) (replies p (line_turn p m x).machine xs)
    (replies p (after p (line_turn p m x).machine xs) ys))

pub examined_by-append : (p : Setting) (m : Machine) (xs ys : List (List ℕ))
    → examined_by p m (xs ++ ys) ≡ examined_by p m xs + examined_by p (after p m xs) ys
examined_by-append p m [] ys = omega arith
examined_by-append p m (x ∷ xs) ys =
    omega (arith, examined_by-append p (line_turn p m x).machine xs ys)

-- ---- what is written
-- some bytes, and then others
pub writes_on : (b c : List ℕ) (w0 w1 w2 : Option (List ℕ)) → Writes b w0 w1 → Writes c w1 w2
    → Writes (b ++ c) w0 w2
writes_on b c w0 w1 w2 one two =
    λ before is. two (before ++ b) (one before is) ∙ ap Some (append_assoc before b c)

pub writes_none : (w : Option (List ℕ)) → Writes [] w w
writes_none w = λ before is. is ∙ ap Some (sym (append-nil before))

-- some bytes, and then a part of others
pub part_behind : (b c : List ℕ) (w0 w1 w2 : Option (List ℕ)) → Writes b w0 w1 → WritesPart c w1 w2
    → WritesPart (b ++ c) w0 w2
part_behind b c w0 w1 w2 one part = record {
  front = b ++ part.front;
  rest = part.rest;
  parts = ap (λ o. b ++ o) part.parts ∙ sym (append_assoc b part.front part.rest);
  written = writes_on b part.front w0 w1 w2 one part.written;
}

-- a part of some bytes is one of more bytes
pub part_of_more : (b c : List ℕ) (w0 w1 : Option (List ℕ)) → WritesPart b w0 w1
    → WritesPart (b ++ c) w0 w1
part_of_more b c w0 w1 part = record {
  front = part.front;
  rest = part.rest ++ c;
  parts = ap (λ o. o ++ c) part.parts ∙ append_assoc part.front part.rest c;
  written = part.written;
}

-- all of the bytes are a part of them
pub part_whole : (b : List ℕ) (w0 w1 : Option (List ℕ)) → Writes b w0 w1 → WritesPart b w0 w1
part_whole b w0 w1 all = record { front = b; rest = []; parts = sym (append-nil b); written = all }

-- none of the bytes is a part of them
pub part_none : (b : List ℕ) (w : Option (List ℕ)) → WritesPart b w w
part_none b w = record { front = []; rest = b; parts = refl; written = writes_none w }

pub writes_same : (b c : List ℕ) (w0 w1 : Option (List ℕ)) → b ≡ c → Writes b w0 w1 → Writes c w0 w1
writes_same b c w0 w1 is w = subst (λ bytes. Writes bytes w0 w1) is w

pub part_same : (b c : List ℕ) (w0 w1 : Option (List ℕ)) → b ≡ c → WritesPart b w0 w1
    → WritesPart c w0 w1
part_same b c w0 w1 is part = subst (λ bytes. WritesPart bytes w0 w1) is part

-- ---- serving
-- some lines, and then others
pub serves_on : (p : Setting) (m : Machine) (xs ys : List (List ℕ)) (a b c : Moment)
    → Serves p m xs a b → Serves p (after p m xs) ys b c → Serves p m (xs ++ ys) a c
serves_on p m xs ys a b c one two = record {
  keeps = rw (after-append p m xs ys) two.keeps;
  tally = omega (arith, one.tally, two.tally, examined_by-append p m xs ys);
  written = writes_same _ _ _ _ (sym (replies-append p m xs ys))
      (writes_on (replies p m xs) (replies p (after p m xs) ys) a.written b.written c.written
      one.written two.written);
}

-- no line
pub serves_none : (p : Setting) (m : Machine) (a : Moment) → KeptAt m a → a.tally < 2 ^ 64
    → Serves p m [] a a
serves_none p m a kept fits =
    record { keeps = kept; tally = omega arith; written = writes_none a.written }

-- some lines, and then a part of the bytes of others
pub part_on : (p : Setting) (m : Machine) (xs ys : List (List ℕ)) (a b : Moment)
    (w : Option (List ℕ)) → Serves p m xs a b → WritesPart (replies p (after p m xs) ys) b.written w
    → WritesPart (replies p m (xs ++ ys)) a.written w
part_on p m xs ys a b w one part =
    part_same _ _ _ _ (sym (replies-append p m xs ys))
    (part_behind (replies p m xs) (replies p (after p m xs) ys) a.written b.written w
    one.written part)

-- a part of the replies to some lines is one of those to more lines
pub part_longer : (p : Setting) (m : Machine) (xs ys : List (List ℕ)) (w0 w1 : Option (List ℕ))
    → WritesPart (replies p m xs) w0 w1 → WritesPart (replies p m (xs ++ ys)) w0 w1
part_longer p m xs ys w0 w1 part =
    part_same _ _ _ _ (sym (replies-append p m xs ys))
    (part_of_more (replies p m xs) (replies p (after p m xs) ys) w0 w1 part)

-- one turn
pub goes_one : (turn : Turn) (given : Option Reply) (a b : Moment)
    → Takes turn given b.types b.rows b.pending a.tally b.tally
    → Writes (said given) a.written b.written
    → Goes turn.machine (said turn.reply) turn.examined a b
goes_one turn given a b done written =
    record {
      keeps = done.keeps;
      tally = done.tally;
      written = writes_same _ _ _ _ (ap said done.reply) written;
    }

pub part_said : (turn : Turn) (given : Option Reply) (w0 w1 : Option (List ℕ)) → given ≡ turn.reply
    → WritesPart (said given) w0 w1 → WritesPart (said turn.reply) w0 w1
part_said turn given w0 w1 is part = part_same _ _ _ _ (ap said is) part

pub serves_one : (p : Setting) (m : Machine) (line : List ℕ) (given : Option Reply) (a b : Moment)
    → Takes (line_turn p m line) given b.types b.rows b.pending a.tally b.tally
    → Writes (said given) a.written b.written → Serves p m (line ∷ []) a b
serves_one p m line given a b done written = record {
  keeps = done.keeps;
  tally = omega (arith, done.tally);
  written = writes_same _ _ _ _
      (ap said done.reply ∙ sym (append-nil (said (line_turn p m line).reply))) written;
}

pub part_one : (p : Setting) (m : Machine) (line : List ℕ) (given : Option Reply)
    (w0 w1 : Option (List ℕ)) → given ≡ (line_turn p m line).reply → WritesPart (said given) w0 w1
    → WritesPart (replies p m (line ∷ [])) w0 w1
part_one p m line given w0 w1 is part =
    part_same _ _ _ _ (ap said is ∙ sym (append-nil (said (line_turn p m line).reply))) part

-- ---- pieces
pub took_on : (x y : List ℕ) (l0 l1 l2 : Option (List ℕ)) → Took x l0 l1 → Took y l1 l2
    → Took (x ++ y) l0 l2
took_on x y l0 l1 l2 one two = λ script is.
    let a = one script is in
    let b = two a.0 a.2 in
    (b.0, a.1 ∙ ap (λ r. x ++ r) b.1 ∙ sym (append_assoc x y b.0), b.2)

pub took_none : (l : Option (List ℕ)) → Took [] l l
took_none l = λ script is. (script, refl, is)

-- a piece of the script, and then the next
pub streams_on : (p : Setting) (start held1 held2 : List ℕ) (l0 l1 l2 : Option (List ℕ))
    (a b c : Moment) (n m k : ℕ)
    → Streams p start held1 l0 l1 a b n
    → ((mid : List ℕ) → held1 ≡ cut mid → Streams p mid held2 l1 l2 b c m) → n + m ≡ k
    → Streams p start held2 l0 l2 a c k
streams_on p start held1 held2 l0 l1 l2 a b c n m k one next sum =
    let two = next (partial_from start one.taken) one.holds in record {
      taken = one.taken ++ two.taken;
      count = omega (arith, one.count, two.count, length-append one.taken two.taken);
      source = took_on one.taken two.taken l0 l1 l2 one.source two.source;
      holds = two.holds ∙ ap cut (sym (partial_from-append start one.taken two.taken));
      serves = λ machine kept.
          let first = one.serves machine kept in
          rw (complete_from-append start one.taken two.taken)
          (serves_on p machine (complete_from start one.taken)
          (complete_from (partial_from start one.taken) two.taken) a b c first
          (two.serves (after p machine (complete_from start one.taken)) first.keeps));
    }

-- a piece of the script, and then one that breaks off
pub breaks_on : (p : Setting) (e : Stop) (j k : ℕ) (start held1 : List ℕ)
    (l0 l1 l2 : Option (List ℕ)) (a b : Moment) (w : Option (List ℕ)) (n : ℕ)
    → Streams p start held1 l0 l1 a b n
    → ((mid : List ℕ) → held1 ≡ cut mid → Breaks p e j mid l1 l2 b w) → n + j ≡ k
    → Breaks p e k start l0 l2 a w
breaks_on p e j k start held1 l0 l1 l2 a b w n one next sum =
    let two = next (partial_from start one.taken) one.holds in record {
      taken = one.taken ++ two.taken;
      source = took_on one.taken two.taken l0 l1 l2 one.source two.source;
      part = λ machine kept.
          let first = one.serves machine kept in
          rw (complete_from-append start one.taken two.taken)
          (part_on p machine (complete_from start one.taken)
          (complete_from (partial_from start one.taken) two.taken) a b w first
          (two.part (after p machine (complete_from start one.taken)) first.keeps));
      whole = λ fault machine kept.
          let first = one.serves machine kept in
          let second = two.whole fault (after p machine (complete_from start one.taken))
          first.keeps in
          rw (complete_from-append start one.taken two.taken)
          (writes_same _ _ _ _
          (sym (replies-append p machine (complete_from start one.taken)
          (complete_from (partial_from start one.taken) two.taken)))
          (writes_on (replies p machine (complete_from start one.taken))
          (replies p (after p machine (complete_from start one.taken))
          (complete_from (partial_from start one.taken) two.taken)) a.written b.written w
          first.written second));
      at_limit = λ limit. omega
          (arith, one.count, two.at_limit limit, length-append one.taken two.taken);
      below_limit = λ other. omega
          (arith, one.count, two.below_limit other, length-append one.taken two.taken);
    }

-- before the first byte
pub streams_none : (p : Setting) (start held : List ℕ) (l : Option (List ℕ)) (a : Moment)
    → held ≡ cut start → a.tally < 2 ^ 64 → Streams p start held l l a a 0
streams_none p start held l a same fits = record {
  taken = [];
  count = refl;
  source = took_none l;
  holds = same;
  serves = λ m kept. serves_none p m a kept fits;
}

-- nothing was taken, and nothing written
pub breaks_none : (p : Setting) (e : Stop) (budget : ℕ) (start : List ℕ) (l : Option (List ℕ))
    (a : Moment) → e ≢ TooLong → 0 < budget → Breaks p e budget start l l a a.written
breaks_none p e budget start l a other some = record {
  taken = [];
  source = took_none l;
  part = λ m kept. part_none (replies p m (complete_from start [])) a.written;
  whole = λ fault m kept. writes_none a.written;
  at_limit = λ limit. absurd (other limit);
  below_limit = λ _. some;
}

-- a store that has a state is, with nothing pending, that of a machine
pub kept_at_start : {types : Types} {rows : Rows} → HasState types rows
    → HasMachine types rows Nothing
kept_at_start {types} {rows} (s, holds) = (machine_at s, record { store = holds; waits = refl })

-- a store that is that of a machine has a state
pub state_kept : {types : Types} {rows : Rows} {pending : Pending} → HasMachine types rows pending
    → HasState types rows
state_kept (m, kept) = (m.state, kept.store)

-- the store and what is pending are still those of a machine
pub streams_keep : (p : Setting) (start held : List ℕ) (l0 l1 : Option (List ℕ)) (a b : Moment)
    (n : ℕ) → Streams p start held l0 l1 a b n → (m : Machine) × KeptAt m a
    → (m : Machine) × KeptAt m b
streams_keep p start held l0 l1 a b n st (m, kept) =
    (after p m (complete_from start st.taken), (st.serves m kept).keeps)

-- ---- a whole script
-- the lines of a script, past some of its bytes
pub lines_of-append : (xs ys : List ℕ)
    → lines_of (xs ++ ys)
    ≡ complete_from [] xs
    ++ (complete_from (partial_from [] xs) ys
    ++ last_line (partial_from (partial_from [] xs) ys))
lines_of-append xs ys =
    ap (λ ls. ls ++ last_line (partial_from [] (xs ++ ys))) (complete_from-append [] xs ys)
    ∙ ap (λ h. (complete_from [] xs ++ complete_from (partial_from [] xs) ys) ++ last_line h)
    (partial_from-append [] xs ys)
    ∙ append_assoc (complete_from [] xs) (complete_from (partial_from [] xs) ys)
    (last_line (partial_from (partial_from [] xs) ys))

-- what broke off is a part of the output
pub stopped_from_breaks : (p : Setting) (s : State) (e : Stop) (l0 l1 : Option (List ℕ))
    (a : Moment) (w : Option (List ℕ)) → KeptAt (machine_at s) a → Breaks p e (2 ^ 40) [] l0 l1 a w
    → (script : List ℕ) → l0 ≡ Some script → Stopped p s e script l1 a.written w
stopped_from_breaks p s e l0 l1 a w kept b script is =
    let at = b.source script is in
    let m = machine_at s in
    let more = complete_from (partial_from [] b.taken) at.0
    ++ last_line (partial_from (partial_from [] b.taken) at.0) in
    let lines : lines_of script ≡ complete_from [] b.taken ++ more =
    ap lines_of at.1 ∙ lines_of-append b.taken at.0 in record {
      taken = b.taken;
      rest = at.0;
      parts = at.1;
      leaves = at.2;
      at_limit = b.at_limit;
      below_limit = b.below_limit;
      part = part_of_more (replies p m (lines_of script)) _ a.written w
          (rw lines (part_longer p m (complete_from [] b.taken) more a.written w (b.part m kept)));
      whole = λ fault. b.whole fault m kept;
    }

-- nothing was taken
pub stopped_at_start : (p : Setting) (s : State) (e : Stop) (script : List ℕ)
    (l w : Option (List ℕ)) → l ≡ Some script → e ≢ TooLong → Stopped p s e script l w w
stopped_at_start p s e script l w is other = record {
  taken = [];
  rest = script;
  parts = refl;
  leaves = is;
  at_limit = λ limit. absurd (other limit);
  below_limit = λ _. omega arith;
  part = part_none (output p s script) w;
  whole = λ fault. writes_none w;
}

-- a script that was taken whole
pub whole_script : (p : Setting) (h : List ℕ) (l0 l1 : Option (List ℕ)) (a b : Moment) (n : ℕ)
    (script : List ℕ) (st : Streams p [] h l0 l1 a b n) → l0 ≡ Some script → l1 ≡ Some []
    → script ≡ st.taken
whole_script p h l0 l1 a b n script st is end =
    let at = st.source script is in
    let none : at.0 ≡ [] = same_some at.0 [] (sym at.2 ∙ end) in
    at.1 ∙ ap (λ r. st.taken ++ r) none ∙ append-nil st.taken

-- how many bytes a script that was taken whole has
pub length_of_whole : (p : Setting) (h : List ℕ) (l0 l1 : Option (List ℕ)) (a b : Moment) (n : ℕ)
    → Streams p [] h l0 l1 a b n → (script : List ℕ) → l0 ≡ Some script → l1 ≡ Some []
    → length script ≡ n
length_of_whole p h l0 l1 a b n st script is end =
    ap length (whole_script p h l0 l1 a b n script st is end) ∙ st.count

pub closing-append : (p : Setting) (m : Machine) (xs ys : List (List ℕ))
    → replies p m xs ++ closing p (after p m xs) ys ≡ closing p m (xs ++ ys)
closing-append p m xs ys =
    sym (append_assoc (replies p m xs) (replies p (after p m xs) ys)
    (said (end_turn p (after p (after p m xs) ys)).reply))
    ∙ ap (λ all. all ++ said (end_turn p (after p (after p m xs) ys)).reply)
    (sym (replies-append p m xs ys))
    ∙ ap (λ last. replies p m (xs ++ ys) ++ said (end_turn p last).reply)
    (sym (after-append p m xs ys))

-- lines, and then the end
pub closes_end : (p : Setting) (m : Machine) (xs : List (List ℕ)) (a b c : Moment)
    → Serves p m xs a b
    → Goes (end_turn p (after p m xs)).machine (said (end_turn p (after p m xs)).reply)
    (end_turn p (after p m xs)).examined b c → Closes p m xs a c
closes_end p m xs a b c one two = record {
  keeps = two.keeps;
  tally = omega (arith, one.tally, two.tally);
  written = writes_on (replies p m xs) (said (end_turn p (after p m xs)).reply) a.written b.written
      c.written one.written two.written;
}

-- lines, and then the last line and the end
pub closes_on : (p : Setting) (m : Machine) (xs ys : List (List ℕ)) (a b c : Moment)
    → Serves p m xs a b → Closes p (after p m xs) ys b c → Closes p m (xs ++ ys) a c
closes_on p m xs ys a b c one two = record {
  keeps = rw (after-append p m xs ys) two.keeps;
  tally = subst (λ last. c.tally
      ≡ capped_sum a.tally (examined_by p m (xs ++ ys) + (end_turn p last).examined))
      (sym (after-append p m xs ys))
      (omega (arith, one.tally, two.tally, examined_by-append p m xs ys));
  written = writes_same _ _ _ _ (closing-append p m xs ys)
      (writes_on (replies p m xs) (closing p (after p m xs) ys) a.written b.written c.written
      one.written two.written);
}

-- the whole script was served
pub served_at_end : (p : Setting) (s : State) (h : List ℕ) (l0 l1 : Option (List ℕ))
    (a b c : Moment) (n : ℕ)
    → Streams p [] h l0 l1 a b n
    → ((start : List ℕ) (m : Machine) → h ≡ cut start → KeptAt m b
    → Closes p m (last_line start) b c)
    → KeptAt (machine_at s) a → (script : List ℕ) → l0 ≡ Some script → l1 ≡ Some []
    → Closes p (machine_at s) (lines_of script) a c
served_at_end p s h l0 l1 a b c n st last kept script is end =
    let whole = whole_script p h l0 l1 a b n script st is end in
    let first = st.serves (machine_at s) kept in
    rw (ap lines_of whole)
    (closes_on p (machine_at s) (complete_from [] st.taken)
    (last_line (partial_from [] st.taken)) a b c first
    (last (partial_from [] st.taken) (after p (machine_at s) (complete_from [] st.taken)) st.holds
    first.keeps))

-- what is said of a script that was served
pub finishes : (p : Setting) (s : State) (script : List ℕ) (left : Option (List ℕ)) (a c : Moment)
    (flushed : ℕ)
    → Closes p (machine_at s) (lines_of script) a c → left ≡ Some []
    → ((bytes : List ℕ) → c.written ≡ Some bytes → flushed ≡ length bytes)
    → Finishes p s script left c.types c.rows a.tally c.tally a.written c.written flushed
finishes p s script left a c flushed served whole all = record {
  whole = whole;
  replies = λ before
      is. (served.written before is, all (before ++ output p s script) (served.written before is));
  counted = served.tally;
  store = served.keeps.store;
}

-- the last line or the end was not served
pub stopped_at_end : (p : Setting) (s : State) (e : Stop) (h : List ℕ) (l0 l1 : Option (List ℕ))
    (a b : Moment) (w : Option (List ℕ)) (n : ℕ)
    → Streams p [] h l0 l1 a b n → n < 2 ^ 40 → e ≢ TooLong → e ≢ ReadFault
    → ((start : List ℕ) (m : Machine) → h ≡ cut start → KeptAt m b
    → WritesPart (closing p m (last_line start)) b.written w)
    → KeptAt (machine_at s) a → (script : List ℕ) → l0 ≡ Some script → l1 ≡ Some []
    → Stopped p s e script l1 a.written w
stopped_at_end p s e h l0 l1 a b w n st few other no_read last kept script is end =
    let whole = whole_script p h l0 l1 a b n script st is end in
    let m = machine_at s in
    let first = st.serves m kept in record {
      taken = script;
      rest = [];
      parts = sym (append-nil script);
      leaves = end;
      at_limit = λ limit. absurd (other limit);
      below_limit = λ _. omega (arith, st.count, ap length whole);
      part = rw (ap lines_of whole)
          (part_same _ _ _ _
          (closing-append p m (complete_from [] st.taken)
          (last_line (partial_from [] st.taken)))
          (part_behind (replies p m (complete_from [] st.taken))
          (closing p (after p m (complete_from [] st.taken))
          (last_line (partial_from [] st.taken))) a.written b.written w first.written
          (last (partial_from [] st.taken) (after p m (complete_from [] st.taken)) st.holds
          first.keeps)));
      whole = λ fault. absurd (no_read fault);
    }

-- where the limit was met the bytes that were taken are so many, and else they are fewer
pub count_at_limit : (taken rest left script : List ℕ) → script ≡ taken ++ rest
    → Some rest ≡ Some left → length taken ≡ 2 ^ 40 → length script ≡ length left + 2 ^ 40
count_at_limit taken rest left script parts same count =
    omega (
      arith,
      ap length parts,
      length-append taken rest,
      ap length (same_some rest left same),
      count,
    )

pub count_below_limit : (taken rest left script : List ℕ) → script ≡ taken ++ rest
    → Some rest ≡ Some left → length taken < 2 ^ 40 → length script ≡ length left + 2 ^ 40 → ⊥
count_below_limit taken rest left script parts same count more =
    omega (
      arith,
      ap length parts,
      length-append taken rest,
      ap length (same_some rest left same),
      count,
      more,
    )

pub count_most : (taken rest left script : List ℕ) → script ≡ taken ++ rest → Some rest ≡ Some left
    → length taken ≤ 2 ^ 40 → length script ≤ length left + 2 ^ 40
count_most taken rest left script parts same count =
    omega (
      arith,
      ap length parts,
      length-append taken rest,
      ap length (same_some rest left same),
      count,
    )

-- ---- a line that was cut where it is too long is read as the whole
reading-long : (types : Types) (line : List ℕ) → 1048577 ≤ length line
    → reading types (cut line) ≡ reading types line
unfolding reading cut
reading-long types line long =
    let few : length (take 1048577 line) ≡ 1048577 = length-take-le 1048577 line long in
    let one : nat_lt 1048576 (length (take 1048577 line)) ≡ true = rw few refl in
    let two : nat_lt 1048576 (length line) ≡ true = grind (arith, nat_tests) in
    ap (λ b. if b then script.refused E01
    else reading_of types (without_return (take 1048577 line))) one
    ∙ sym (ap (λ b. if b then script.refused E01 else reading_of types (without_return line)) two)

pub reading-cut : (types : Types) (line : List ℕ) → reading types (cut line) ≡ reading types line
unfolding cut
reading-cut types line =
    ⊎_elim (λ short. ap (reading types) (take_all 1048577 line (omega arith)))
    (λ long. reading-long types line long) (cases_lt (length line) 1048577)

turn-cut : (p : Setting) (m : Machine) (line : List ℕ)
    → line_turn p m (cut line) ≡ line_turn p m line
turn-cut p m line = ap (λ r. turn_of (outcome_of p m.state r)) (reading-cut (types_of m.state) line)

pub serves_cut : (p : Setting) (m : Machine) (line : List ℕ) (a b : Moment)
    → Serves p m (cut line ∷ []) a b → Serves p m (line ∷ []) a b
serves_cut p m line a b s = record {
  keeps = subst (λ t. KeptAt t.machine b) (turn-cut p m line) s.keeps;
  tally = s.tally ∙ ap (λ t. capped_sum a.tally (t.examined + 0)) (turn-cut p m line);
  written = writes_same _ _ _ _ (ap (λ t. said t.reply ++ []) (turn-cut p m line)) s.written;
}

pub serves_cut_as : (p : Setting) (m : Machine) (line shown : List ℕ) (a b : Moment)
    → shown ≡ cut line → Serves p m (shown ∷ []) a b → Serves p m (line ∷ []) a b
serves_cut_as p m line shown a b is s =
    serves_cut p m line a b (subst (λ l. Serves p m (l ∷ []) a b) is s)

pub part_cut_as : (p : Setting) (m : Machine) (line shown : List ℕ) (w0 w1 : Option (List ℕ))
    → shown ≡ cut line → WritesPart (replies p m (shown ∷ [])) w0 w1
    → WritesPart (replies p m (line ∷ [])) w0 w1
part_cut_as p m line shown w0 w1 is part =
    part_same _ _ _ _
    (ap (λ l. replies p m (l ∷ [])) is ∙ ap (λ t. said t.reply ++ []) (turn-cut p m line)) part

-- ---- lines that end in a piece
-- some bytes were served, and then the line that ends behind more of them
pub serves_more : (p : Setting) (m : Machine) (start front part whole : List ℕ) (a b c : Moment)
    → IsInsideLine part → whole ≡ front ++ (part ++ 10 ∷ [])
    → Serves p m (complete_from start front) a b
    → Serves p (after p m (complete_from start front)) ((partial_from start front ++ part) ∷ []) b c
    → Serves p m (complete_from start whole) a c
serves_more p m start front part whole a b c inside is one two =
    rw (is, complete_from-more start front part inside)
    (serves_on p m (complete_from start front) ((partial_from start front ++ part) ∷ [])
    a b c one two)

pub held_more : (start front part whole : List ℕ) → IsInsideLine part
    → whole ≡ front ++ (part ++ 10 ∷ []) → [] ≡ cut (partial_from start whole)
held_more start front part whole inside is =
    sym (ap cut (ap (partial_from start) is ∙ partial_from-more start front part inside) ∙ cut-none)

-- and where only a part of its reply was written
pub part_more : (p : Setting) (m : Machine) (start front part whole rest : List ℕ) (a b : Moment)
    (w : Option (List ℕ)) → IsInsideLine part → whole ≡ (front ++ (part ++ 10 ∷ [])) ++ rest
    → Serves p m (complete_from start front) a b
    → WritesPart (replies p (after p m (complete_from start front))
    ((partial_from start front ++ part) ∷ [])) b.written w
    → WritesPart (replies p m (complete_from start whole)) a.written w
part_more p m start front part whole rest a b w inside is one two =
    rw (
      is,
      complete_from-append start (front ++ (part ++ 10 ∷ [])) rest,
      complete_from-more start front part inside,
    )
    (part_longer p m (complete_from start front ++ (partial_from start front ++ part) ∷ [])
    (complete_from (partial_from start (front ++ (part ++ 10 ∷ []))) rest) a.written w
    (part_on p m (complete_from start front) ((partial_from start front ++ part) ∷ []) a
    b w one two))

-- where no line ends from a place on, all replies are written
pub part_all : (p : Setting) (m : Machine) (start : List ℕ) (at : ℕ) (bytes : List ℕ) (a b : Moment)
    → IsInsideLine (drop at bytes) → Serves p m (complete_from start (take at bytes)) a b
    → WritesPart (replies p m (complete_from start bytes)) a.written b.written
part_all p m start at bytes a b inside served =
    rw (complete_from-all start at bytes inside)
    (part_whole (replies p m (complete_from start (take at bytes))) a.written b.written
    served.written)

-- ---- results
-- what is told of a result, told otherwise
pub on_ok : {T E : Type 0} {P Q : Type 0} (r : Result T E) → OnOk r P → (P → Q) → OnOk r Q
on_ok (Ok _) p f = f p
on_ok (Err _) p f = p

pub on_err : {T E : Type 0} {P Q : Type 0} (r : Result T E) → OnErr r P → (P → Q) → OnErr r Q
on_err (Ok _) p f = p
on_err (Err _) p f = f p

-- what holds whatever the result
pub always_ok : {T E : Type 0} {P : Type 0} (r : Result T E) → P → OnOk r P
always_ok (Ok _) p = p
always_ok (Err _) p = tt

-- all of the output is a part of it
pub part_of_finished : (p : Setting) (s : State) (script : List ℕ) (left : Option (List ℕ))
    (types : Types) (rows : Rows) (t0 t1 : ℕ) (w0 w1 : Option (List ℕ)) (flushed : ℕ)
    → Finishes p s script left types rows t0 t1 w0 w1 flushed → WritesPart (output p s script) w0 w1
part_of_finished p s script left types rows t0 t1 w0 w1 flushed done =
    part_whole (output p s script) w0 w1 (λ before is. (done.replies before is).0)

-- a stop takes no more bytes than the limit
pub taken_most : (e : Stop) (taken : List ℕ) → (e ≡ TooLong → length taken ≡ 2 ^ 40)
    → (e ≢ TooLong → length taken < 2 ^ 40) → length taken ≤ 2 ^ 40
taken_most stop.TooLong taken limit other = omega (arith, limit refl)
taken_most stop.NoMemory taken limit other = omega (arith, other (λ is. cc))
taken_most stop.ReadFault taken limit other = omega (arith, other (λ is. cc))
taken_most stop.WriteFault taken limit other = omega (arith, other (λ is. cc))
