-- What reading a filter answers, by what the text spells.
use Rattle.std.proofs.Common.{◌≡◌, ℕ, Bool, true, List, Some, sym, ap, ◌∙◌, subst}
use Rattle.std.specs.Prelude.{Result, Ok, Err}
use Rattle.gm_types.specs.Specification.{Specification}
use Rattle.gm_filter.specs.declared.filter.Filter.{Filter}
use Rattle.gm_filter.specs.Suitability.{Suits}
use Rattle.gm_filter.specs.Tree.{Tree, tree}
use Rattle.gm_ecql.specs.declared.fault.FilterFault.{FilterFault}
use Rattle.gm_ecql.specs.declared.fault.FilterFault.TheVariants as fault
use Rattle.gm_ecql.specs.Fault.{IsFilterOf, SpellsFilter, StandsFor, IsFault, IsAnswer}
use Rattle.gm_ecql.specs.Judging.{Judged, faultless}
use Rattle.gm_ecql.specs.Limits.{are_numbers_apart}
use Rattle.gm_ecql.specs.Outcome.{filter_outcome, KeepsLimits, Answers}
use Rattle.gm_ecql.specs.Parser.{document}
use Rattle.gm_ecql.specs.Token.{Seen, unspaced}
use Rattle.gm_ecql.proofs.Answering.{fault_is, ok_is, only_ok, keeps_limits}
use Rattle.gm_ecql.proofs.Documents.{document_suits, spelled_utf8}
use Rattle.gm_ecql.proofs.GrammarFound.{document_complete}
use Rattle.gm_ecql.proofs.GrammarSound.{document_sound}

of_document : (s : Specification) (ts : List (Bool × Seen)) (j : Judged)
    → are_numbers_apart ts ≡ true → document s (unspaced ts) ≡ Some j → IsFilterOf s ts j
of_document s ts j a e = record { apart = a; spelled = document_sound s (unspaced ts) j e }

to_document : (s : Specification) (ts : List (Bool × Seen)) (j : Judged) → IsFilterOf s ts j
    → (are_numbers_apart ts ≡ true) × (document s (unspaced ts) ≡ Some j)
to_document s ts j of = (of.apart, document_complete s (unspaced ts) j of.spelled)

pub filter_fault : (s : Specification) (text : List ℕ) (e : FilterFault)
    → filter_outcome s text ≡ Err e → IsFault (IsFilterOf s) (λ j. j.faults) text e
unfolding filter_outcome
filter_fault s text e h =
    fault_is (document s) (λ j. j.faults) (λ j. j.meaning) (IsFilterOf s) (of_document s)
    (to_document s) text e h

filter_ok : (s : Specification) (text : List ℕ) (t : Tree) → filter_outcome s text ≡ Ok t
    → (j : Judged) × StandsFor (IsFilterOf s) text j × (j.faults ≡ faultless) × (t ≡ j.meaning)
unfolding filter_outcome
filter_ok s text t h =
    ok_is (document s) (λ j. j.faults) (λ j. j.meaning) (IsFilterOf s) (of_document s)
    (to_document s) text t h

pub filter_found : (s : Specification) (text : List ℕ) (t : Tree) → filter_outcome s text ≡ Ok t
    → KeepsLimits text × SpellsFilter s text t
filter_found s text t h =
    let o = filter_ok s text t h in (
      keeps_limits (document s) (λ j. j.faults) (λ j. j.meaning) (IsFilterOf s) (of_document s)
          (to_document s) text o.0 o.1,
      record {
        tokens = o.1.0;
        judged = o.0;
        lexed = o.1.1;
        parsed = o.1.3;
        sound = o.2;
        means = o.3;
      },
    )

pub filter_only : (s : Specification) (text : List ℕ) (t : Tree) → KeepsLimits text
    → SpellsFilter s text t → filter_outcome s text ≡ Ok t
unfolding filter_outcome
filter_only s text t limits f =
    only_ok (document s) (λ j. j.faults) (λ j. j.meaning) (IsFilterOf s) (of_document s)
    (to_document s) text f.judged
    (f.tokens, f.lexed, limits f.tokens f.lexed, f.parsed) f.sound
    ∙ ap (λ z. Ok z) (sym f.means)

pub filter_answer : (s : Specification) (text : List ℕ) (r : Result Filter FilterFault)
    → Answers (λ f. tree f) (filter_outcome s text) r → IsAnswer s text r
filter_answer s text (Ok f) a = filter_ok s text (tree f) a
filter_answer s text (Err fault.Syntax) a = filter_fault s text fault.Syntax a
filter_answer s text (Err fault.Limit) a = filter_fault s text fault.Limit a
filter_answer s text (Err (fault.Unknown name)) a = filter_fault s text (fault.Unknown name) a
filter_answer s text (Err (fault.Literal name)) a = filter_fault s text (fault.Literal name) a
filter_answer s text (Err fault.NoMemory) a = tt

pub filter_suits : (s : Specification) (text : List ℕ) (t : Tree)
    → filter_outcome s text ≡ Ok t → Suits s t
filter_suits s text t h =
    let o = filter_ok s text t h in
    subst (λ z. Suits s z) (sym o.3)
    (document_suits s (unspaced o.1.0) o.0 (spelled_utf8 text o.1.0 o.1.1)
    (to_document s o.1.0 o.0 o.1.3).1 o.2)
