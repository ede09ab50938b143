-- What reading a change answers, by what the text spells.
use Rattle.std.proofs.Common.{◌≡◌, ℕ, Bool, true, List, Some, sym, ap, ◌∙◌, subst}
use Rattle.std.specs.Prelude.{Result, Ok, Err}
use Rattle.gm_types.specs.Specification.{Specification}
use Rattle.gm_filter.specs.Suitability.{Suits}
use Rattle.gm_ecql.specs.declared.change.Change.{Change}
use Rattle.gm_ecql.specs.declared.fault.FilterFault.{FilterFault}
use Rattle.gm_ecql.specs.declared.fault.FilterFault.TheVariants as fault
use Rattle.gm_ecql.specs.Change.{JudgedChange, change_document}
use Rattle.gm_ecql.specs.Fault.{IsChangeOf, SpellsChange, StandsFor, IsFault, IsChangeAnswer}
use Rattle.gm_ecql.specs.Judging.{faultless}
use Rattle.gm_ecql.specs.Limits.{are_numbers_apart}
use Rattle.gm_ecql.specs.Outcome.{Meant, meant, meant_by, change_outcome, KeepsLimits, Answers}
use Rattle.gm_ecql.specs.Outcome.{MayHold}
use Rattle.gm_ecql.specs.Token.{Seen, unspaced}
use Rattle.gm_ecql.proofs.Answering.{fault_is, ok_is, only_ok, keeps_limits}
use Rattle.gm_ecql.proofs.Assigned.{change_holds}
use Rattle.gm_ecql.proofs.ChangesRead.{change_sound, change_complete, change_suits}
use Rattle.gm_ecql.proofs.Documents.{spelled_utf8}

of_document : (s : Specification) (ts : List (Bool × Seen)) (c : JudgedChange)
    → are_numbers_apart ts ≡ true → change_document s (unspaced ts) ≡ Some c → IsChangeOf s ts c
of_document s ts c a e = record { apart = a; spelled = change_sound s (unspaced ts) c e }

to_document : (s : Specification) (ts : List (Bool × Seen)) (c : JudgedChange) → IsChangeOf s ts c
    → (are_numbers_apart ts ≡ true) × (change_document s (unspaced ts) ≡ Some c)
to_document s ts c of = (of.apart, change_complete s (unspaced ts) c of.spelled)

pub change_fault : (s : Specification) (text : List ℕ) (e : FilterFault)
    → change_outcome s text ≡ Err e → IsFault (IsChangeOf s) (λ c. c.faults) text e
unfolding change_outcome
change_fault s text e h =
    fault_is (change_document s) (λ c. c.faults) meant_by (IsChangeOf s) (of_document s)
    (to_document s) text e h

change_ok : (s : Specification) (text : List ℕ) (m : Meant) → change_outcome s text ≡ Ok m
    → (c : JudgedChange) × StandsFor (IsChangeOf s) text c × (c.faults ≡ faultless)
    × (m ≡ meant_by c)
unfolding change_outcome
change_ok s text m h =
    ok_is (change_document s) (λ c. c.faults) meant_by (IsChangeOf s) (of_document s)
    (to_document s) text m h

pub change_found : (s : Specification) (text : List ℕ) (m : Meant) → change_outcome s text ≡ Ok m
    → KeepsLimits text × SpellsChange s text m.place m.holds m.wanted
change_found s text m h =
    let o = change_ok s text m h in (
      keeps_limits (change_document s) (λ c. c.faults) meant_by (IsChangeOf s) (of_document s)
          (to_document s) text o.0 o.1,
      record {
        tokens = o.1.0;
        judged = o.0;
        lexed = o.1.1;
        parsed = o.1.3;
        sound = o.2;
        place_means = ap (λ z. z.place) o.3;
        value_means = ap (λ z. z.holds) o.3;
        filter_means = ap (λ z. z.wanted) o.3;
      },
    )

same_meant : (m : Meant) (c : JudgedChange) → m.place ≡ c.place → m.holds ≡ c.holds
    → m.wanted ≡ c.meaning → m ≡ meant_by c
same_meant m c p v t =
    ap (λ z. record { place = z; holds = m.holds; wanted = m.wanted }) p
    ∙ ap (λ z. record { place = c.place; holds = z; wanted = m.wanted }) v
    ∙ ap (λ z. record { place = c.place; holds = c.holds; wanted = z }) t

pub change_only : (s : Specification) (text : List ℕ) (m : Meant) → KeepsLimits text
    → SpellsChange s text m.place m.holds m.wanted → change_outcome s text ≡ Ok m
unfolding change_outcome
change_only s text m limits f =
    only_ok (change_document s) (λ c. c.faults) meant_by (IsChangeOf s) (of_document s)
    (to_document s) text f.judged
    (f.tokens, f.lexed, limits f.tokens f.lexed, f.parsed) f.sound
    ∙ ap (λ z. Ok z) (sym (same_meant m f.judged f.place_means f.value_means f.filter_means))

answered : (s : Specification) (text : List ℕ) (c : Change) → change_outcome s text ≡ Ok (meant c)
    → IsChangeAnswer s text (Ok c)
answered s text c h =
    let o = change_ok s text (meant c) h in
    (o.0, o.1, o.2, ap (λ z. z.place) o.3, ap (λ z. z.holds) o.3, ap (λ z. z.wanted) o.3)

pub change_answer : (s : Specification) (text : List ℕ) (r : Result Change FilterFault)
    → Answers meant (change_outcome s text) r → IsChangeAnswer s text r
change_answer s text (Ok c) a = answered s text c a
change_answer s text (Err fault.Syntax) a = change_fault s text fault.Syntax a
change_answer s text (Err fault.Limit) a = change_fault s text fault.Limit a
change_answer s text (Err (fault.Unknown name)) a = change_fault s text (fault.Unknown name) a
change_answer s text (Err (fault.Literal name)) a = change_fault s text (fault.Literal name) a
change_answer s text (Err fault.NoMemory) a = tt

pub change_fits : (s : Specification) (text : List ℕ) (m : Meant) → change_outcome s text ≡ Ok m
    → Suits s m.wanted
change_fits s text m h =
    let o = change_ok s text m h in
    subst (λ z. Suits s z) (sym (ap (λ z. z.wanted) o.3))
    (change_suits s (unspaced o.1.0) o.0 (spelled_utf8 text o.1.0 o.1.1)
    (to_document s o.1.0 o.0 o.1.3).1 o.2)

pub change_may_hold : (s : Specification) (text : List ℕ) (m : Meant) → change_outcome s text ≡ Ok m
    → MayHold s m.place m.holds
change_may_hold s text m h =
    let o = change_ok s text m h in
    subst (λ z. MayHold s z.place z.holds) (sym o.3)
    (change_holds s (unspaced o.1.0) o.0 (to_document s o.1.0 o.0 o.1.3).1 o.2)
