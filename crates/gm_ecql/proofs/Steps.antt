-- What each exit of a reader says of the whole answer.
use Rattle.std.proofs.Common.{◌≡◌, ℕ, Bool, true, false, cond, List, Option, Some, None, refl, sym}
use Rattle.std.proofs.Common.{ap, ◌∙◌, subst}
use Rattle.std.specs.Prelude.{Result, Ok, Err}
use Rattle.gm_ecql.specs.declared.fault.FilterFault.{FilterFault}
use Rattle.gm_ecql.specs.declared.fault.FilterFault.TheVariants as fault
use Rattle.gm_ecql.specs.declared.halt.Halt.{Halt}
use Rattle.gm_ecql.specs.declared.halt.Halt.TheVariants as halt
use Rattle.gm_ecql.specs.Halt.{Halts, IsFaultOf}
use Rattle.gm_ecql.specs.Judging.{NameFaults}
use Rattle.gm_ecql.specs.Limits.{are_within, are_numbers_apart}
use Rattle.gm_ecql.specs.Outcome.{tokens_of, kept_tokens, if_sound, if_faultless, if_parsed}
use Rattle.gm_ecql.specs.Outcome.{outcome_by, Answers}
use Rattle.gm_ecql.specs.Token.{Seen, unspaced}
use Rattle.gm_ecql.proofs.Answering.{same_err, no_ok, no_err}

-- the answer at an exit with a fault
pub at_exit : {A X : Type 0} (view : X → A) (wanted : Result A FilterFault)
    (r : Result X FilterFault) (e : FilterFault) → r ≡ Err e
    → Answers view wanted (Err e) → Answers view wanted r
at_exit view wanted r e is a = subst (λ z. Answers view wanted z) (sym is) a

-- the tokens that a text has, by their limits
pub over_limits : (text : List ℕ) (ts : List (Bool × Seen)) (us : List Seen) (within : Bool)
    → tokens_of text ≡ Some ts → unspaced ts ≡ us → within ≡ are_within us → within ≡ false
    → kept_tokens (tokens_of text) ≡ Err fault.Limit
over_limits text ts us within e same w is =
    ap kept_tokens e
    ∙ ap (λ x. cond x (cond (are_numbers_apart ts) (Ok ts) (Err fault.Syntax))
    (Err fault.Limit)) (ap are_within same ∙ sym w ∙ is)

by_apart : (text : List ℕ) (ts : List (Bool × Seen)) (us : List Seen) (within apart : Bool)
    → tokens_of text ≡ Some ts → unspaced ts ≡ us → within ≡ are_within us → within ≡ true
    → apart ≡ are_numbers_apart ts
    → kept_tokens (tokens_of text) ≡ cond apart (Ok ts) (Err fault.Syntax)
by_apart text ts us within apart e same w is a =
    ap kept_tokens e
    ∙ ap (λ x. cond x (cond (are_numbers_apart ts) (Ok ts) (Err fault.Syntax))
    (Err fault.Limit)) (ap are_within same ∙ sym w ∙ is)
    ∙ ap (λ x. cond x (Ok ts) (Err fault.Syntax)) (sym a)

pub too_close : (text : List ℕ) (ts : List (Bool × Seen)) (us : List Seen) (within apart : Bool)
    → tokens_of text ≡ Some ts → unspaced ts ≡ us → within ≡ are_within us → within ≡ true
    → apart ≡ are_numbers_apart ts → apart ≡ false → kept_tokens (tokens_of text) ≡ Err fault.Syntax
too_close text ts us within apart e same w is a no_gap =
    by_apart text ts us within apart e same w is a
    ∙ ap (λ x. cond x (Ok ts) (Err fault.Syntax)) no_gap

pub all_kept : (text : List ℕ) (ts : List (Bool × Seen)) (us : List Seen) (within apart : Bool)
    → tokens_of text ≡ Some ts → unspaced ts ≡ us → within ≡ are_within us → within ≡ true
    → apart ≡ are_numbers_apart ts → apart ≡ true → kept_tokens (tokens_of text) ≡ Ok ts
all_kept text ts us within apart e same w is a gaps =
    by_apart text ts us within apart e same w is a
    ∙ ap (λ x. cond x (Ok ts) (Err fault.Syntax)) gaps

pub passed : {A B X Y : Type 0} (v : X → A) (w : Y → B) (from : Result A FilterFault)
    (to : Result B FilterFault) (e : FilterFault)
    → ((f : FilterFault) → from ≡ Err f → to ≡ Err f) → Answers v from (Err e)
    → Answers w to (Err e)
passed v w from to fault.Syntax later a = later fault.Syntax a
passed v w from to fault.Limit later a = later fault.Limit a
passed v w from to (fault.Unknown name) later a = later (fault.Unknown name) a
passed v w from to (fault.Literal name) later a = later (fault.Literal name) a
passed v w from to fault.NoMemory later a = tt

same_fault : {A B : Type 0} (u b : Option (List ℕ)) (x : A) (y : B) (f : FilterFault)
    → if_faultless u b x ≡ Err f → if_faultless u b y ≡ Err f
same_fault (Some name) b x y f h = ap (λ z. Err z) (same_err (fault.Unknown name) f h)
same_fault None (Some name) x y f h = ap (λ z. Err z) (same_err (fault.Literal name) f h)
same_fault None None x y f h = no_ok x f h

clean : {A B : Type 0} (u b : Option (List ℕ)) (x z : A) (y : B) → if_faultless u b x ≡ Ok z
    → if_faultless u b y ≡ Ok y
clean (Some name) b x z y h = no_err z (fault.Unknown name) h
clean None (Some name) x z y h = no_err z (fault.Literal name) h
clean None None x z y h = refl

module _ {J A X : Type 0} (parsed : List Seen → Option J) (faults : J → NameFaults)
    (meaning : J → A) (view : X → A) (text : List ℕ) where
  pub token_fault : {Y : Type 0} (v : Y → List (Bool × Seen)) (e : FilterFault)
      → Answers v (kept_tokens (tokens_of text)) (Err e)
      → Answers view (outcome_by parsed faults meaning text) (Err e)
  token_fault v e a =
      passed v view (kept_tokens (tokens_of text)) (outcome_by parsed faults meaning text) e
      (λ f h. ap (if_sound (λ us. if_parsed faults meaning (parsed us))) h) a

  by_sound : (ts : List (Bool × Seen)) (us : List Seen) (o : Option J)
      → kept_tokens (tokens_of text) ≡ Ok ts → unspaced ts ≡ us → parsed us ≡ o
      → outcome_by parsed faults meaning text ≡ if_parsed faults meaning o
  by_sound ts us o k same p =
      ap (if_sound (λ vs. if_parsed faults meaning (parsed vs))) k
      ∙ ap (λ vs. if_parsed faults meaning (parsed vs)) same ∙ ap (if_parsed faults meaning) p

  pub parse_fault : (ts : List (Bool × Seen)) (us : List Seen) (h : Halt) (e : FilterFault)
      → kept_tokens (tokens_of text) ≡ Ok ts → unspaced ts ≡ us
      → Halts (parsed us) h → IsFaultOf h e
      → Answers view (outcome_by parsed faults meaning text) (Err e)
  parse_fault ts us halt.Syntax e k same p f =
      subst (λ z. Answers view (outcome_by parsed faults meaning text) (Err z)) (sym f)
      (by_sound ts us None k same p)
  parse_fault ts us halt.NoMemory e k same p f =
      subst (λ z. Answers view (outcome_by parsed faults meaning text) (Err z)) (sym f) tt

  pub name_fault : (ts : List (Bool × Seen)) (us : List Seen) (j : J) (e : FilterFault)
      → kept_tokens (tokens_of text) ≡ Ok ts → unspaced ts ≡ us → parsed us ≡ Some j
      → Answers {A = Unit {0}} {X = Unit {0}} (λ u. u)
      (if_faultless (faults j).unknown (faults j).bad tt) (Err e)
      → Answers view (outcome_by parsed faults meaning text) (Err e)
  name_fault ts us j e k same p a =
      passed {A = Unit {0}} {X = Unit {0}} (λ u. u) view
      (if_faultless (faults j).unknown (faults j).bad tt)
      (outcome_by parsed faults meaning text) e
      (λ f h. by_sound ts us (Some j) k same p
      ∙ same_fault (faults j).unknown (faults j).bad tt (meaning j) f h) a

  pub all_well : (ts : List (Bool × Seen)) (us : List Seen) (j : J) (u : Unit {0})
      → kept_tokens (tokens_of text) ≡ Ok ts → unspaced ts ≡ us → parsed us ≡ Some j
      → if_faultless (faults j).unknown (faults j).bad tt ≡ Ok u
      → outcome_by parsed faults meaning text ≡ Ok (meaning j)
  all_well ts us j u k same p h =
      by_sound ts us (Some j) k same p ∙ clean (faults j).unknown (faults j).bad tt u (meaning j) h
