-- What reading answers is what the text spells, for filters and for changes alike.
use Rattle.std.proofs.Common.{◌≡◌, ℕ, Bool, true, false, cond, List, Option, Some, None}
use Rattle.std.proofs.Common.{refl, sym, ap, ◌∙◌, subst, inl, inr}
use Rattle.std.specs.Prelude.{Result, Ok, Err}
use Rattle.gm_base.proofs.Booleans.{not_both}
use Rattle.gm_ecql.specs.declared.fault.FilterFault.{FilterFault}
use Rattle.gm_ecql.specs.declared.fault.FilterFault.TheVariants as fault
use Rattle.gm_ecql.specs.Fault.{StandsFor, IsFault}
use Rattle.gm_ecql.specs.Judging.{NameFaults, faultless}
use Rattle.gm_ecql.specs.Limits.{are_within, are_numbers_apart}
use Rattle.gm_ecql.specs.Outcome.{tokens_of, kept_tokens, if_sound, if_faultless, if_parsed}
use Rattle.gm_ecql.specs.Outcome.{outcome_by, KeepsLimits}
use Rattle.gm_ecql.specs.Token.{Seen, unspaced}
use Rattle.gm_ecql.proofs.Lists.{one_list}
use Rattle.gm_ecql.proofs.Outcomes.{tokens_sound, tokens_complete, none_spelled}
use Rattle.gm_ecql.proofs.Suiting.{no_faults}

pub same_err : {A : Type 0} (e f : FilterFault)
    → ◌≡◌ {A = Result A FilterFault} (Err e) (Err f) → e ≡ f
same_err e f h = cc

pub no_ok : {A P : Type 0} (x : A) (e : FilterFault)
    → ◌≡◌ {A = Result A FilterFault} (Ok x) (Err e) → P
no_ok x e h = absurd (cc)

pub no_err : {A P : Type 0} (x : A) (e : FilterFault)
    → ◌≡◌ {A = Result A FilterFault} (Err e) (Ok x) → P
no_err x e h = absurd (cc)

module _ {J A : Type 0} (parsed : List Seen → Option J) (faults : J → NameFaults) (meaning : J → A)
    (IsOf : List (Bool × Seen) → J → Type 0)
    (sound : (ts : List (Bool × Seen)) (j : J) → are_numbers_apart ts ≡ true
    → parsed (unspaced ts) ≡ Some j → IsOf ts j)
    (complete : (ts : List (Bool × Seen)) (j : J) → IsOf ts j
    → (are_numbers_apart ts ≡ true) × (parsed (unspaced ts) ≡ Some j)) where
  by_tokens : (text : List ℕ) (o : Option (List (Bool × Seen))) → tokens_of text ≡ o
      → outcome_by parsed faults meaning text
      ≡ if_sound (λ us. if_parsed faults meaning (parsed us)) (kept_tokens o)
  by_tokens text o e =
      ap (λ z. if_sound (λ us. if_parsed faults meaning (parsed us)) (kept_tokens z)) e

  over : (ts : List (Bool × Seen)) → are_within (unspaced ts) ≡ false
      → kept_tokens (Some ts) ≡ Err fault.Limit
  over ts w = ap
      (λ x. cond x (cond (are_numbers_apart ts) (Ok ts) (Err fault.Syntax)) (Err fault.Limit)) w

  close : (ts : List (Bool × Seen)) → are_within (unspaced ts) ≡ true → are_numbers_apart ts ≡ false
      → kept_tokens (Some ts) ≡ Err fault.Syntax
  close ts w a =
      ap (λ x. cond x (cond (are_numbers_apart ts) (Ok ts) (Err fault.Syntax)) (Err fault.Limit)) w
      ∙ ap (λ x. cond x (Ok ts) (Err fault.Syntax)) a

  kept : (ts : List (Bool × Seen)) → are_within (unspaced ts) ≡ true → are_numbers_apart ts ≡ true
      → kept_tokens (Some ts) ≡ Ok ts
  kept ts w a =
      ap (λ x. cond x (cond (are_numbers_apart ts) (Ok ts) (Err fault.Syntax)) (Err fault.Limit)) w
      ∙ ap (λ x. cond x (Ok ts) (Err fault.Syntax)) a

  -- the tokens of a text that has any
  by_kept : (text : List ℕ) (ts : List (Bool × Seen)) (r : Result (List (Bool × Seen)) FilterFault)
      → tokens_of text ≡ Some ts → kept_tokens (Some ts) ≡ r
      → outcome_by parsed faults meaning text
      ≡ if_sound (λ us. if_parsed faults meaning (parsed us)) r
  by_kept text ts r e k =
      by_tokens text (Some ts) e ∙ ap (if_sound (λ us. if_parsed faults meaning (parsed us))) k

  by_parsed : (text : List ℕ) (ts : List (Bool × Seen)) (o : Option J) → tokens_of text ≡ Some ts
      → are_within (unspaced ts) ≡ true → are_numbers_apart ts ≡ true
      → parsed (unspaced ts) ≡ o
      → outcome_by parsed faults meaning text ≡ if_parsed faults meaning o
  by_parsed text ts o e w a p =
      by_kept text ts (Ok ts) e (kept ts w a) ∙ ap (if_parsed faults meaning) p

  abbrev Stands : List ℕ → A → Type 0
  Stands text a = (j : J) × StandsFor IsOf text j × (faults j ≡ faultless) × (a ≡ meaning j)

  -- what an answer says
  abbrev Says : List ℕ → Result A FilterFault → Type 0
  Says text (Ok a) = Stands text a
  Says text (Err e) = IsFault IsOf faults text e

  says_parsed : (text : List ℕ) (j : J) (u b : Option (List ℕ)) → StandsFor IsOf text j
      → (faults j).unknown ≡ u → (faults j).bad ≡ b
      → Says text (if_faultless u b (meaning j))
  says_parsed text j (Some name) b s u f = (j, s, u)
  says_parsed text j None (Some name) s u f = (j, s, (u, f))
  says_parsed text j None None s u f = (j, s, no_faults (faults j) u f, refl)

  says_of : (text : List ℕ) (r : Result A FilterFault) → outcome_by parsed faults meaning text ≡ r
      → Says text r → Says text (outcome_by parsed faults meaning text)
  says_of text r e s = subst (Says text) (sym e) s

  says_kept : (text : List ℕ) (ts : List (Bool × Seen)) → tokens_of text ≡ Some ts
      → are_within (unspaced ts) ≡ true → are_numbers_apart ts ≡ true
      → Says text (outcome_by parsed faults meaning text)
  says_kept text ts e w a =
      elim (parsed (unspaced ts)) as
      (λ o. parsed (unspaced ts) ≡ o → Says text (outcome_by parsed faults meaning text)) [
        | None ↦ λ p. says_of text (Err fault.Syntax) (by_parsed text ts None e w a p)
            (inr (
              ts,
              tokens_sound text ts e,
              w,
              λ j of. let q : None ≡ Some j = sym p
                  ∙ (complete ts j of).1 in absurd (cc),
            ))
        | Some j ↦ λ p. says_of text (if_parsed faults meaning (Some j))
            (by_parsed text ts (Some j) e w a p)
            (says_parsed text j (faults j).unknown (faults j).bad
            (ts, tokens_sound text ts e, w, sound ts j a p) refl refl)
      ] refl

  says_within : (text : List ℕ) (ts : List (Bool × Seen)) → tokens_of text ≡ Some ts
      → are_within (unspaced ts) ≡ true → Says text (outcome_by parsed faults meaning text)
  says_within text ts e w =
      elim (are_numbers_apart ts) as
      (λ x. are_numbers_apart ts ≡ x → Says text (outcome_by parsed faults meaning text)) [
        | true ↦ λ a. says_kept text ts e w a
        | false ↦ λ a. says_of text (Err fault.Syntax)
            (by_kept text ts (Err fault.Syntax) e (close ts w a))
            (inr (
              ts,
              tokens_sound text ts e,
              w,
              λ j of. not_both (are_numbers_apart ts) (complete ts j of).0 a,
            ))
      ] refl

  says_told : (text : List ℕ) (ts : List (Bool × Seen)) → tokens_of text ≡ Some ts
      → Says text (outcome_by parsed faults meaning text)
  says_told text ts e =
      elim (are_within (unspaced ts)) as
      (λ x. are_within (unspaced ts) ≡ x → Says text (outcome_by parsed faults meaning text)) [
        | true ↦ λ w. says_within text ts e w
        | false ↦ λ w. says_of text (Err fault.Limit)
            (by_kept text ts (Err fault.Limit) e (over ts w))
            (ts, tokens_sound text ts e, w)
      ] refl

  says : (text : List ℕ) → Says text (outcome_by parsed faults meaning text)
  says text = elim (tokens_of text) as
      (λ o. tokens_of text ≡ o → Says text (outcome_by parsed faults meaning text)) [
        | None ↦ λ e. says_of text (Err fault.Syntax) (by_tokens text None e)
            (inl (λ ts s. none_spelled text ts e s))
        | Some ts ↦ λ e. says_told text ts e
      ] refl

  pub fault_is : (text : List ℕ) (e : FilterFault) → outcome_by parsed faults meaning text ≡ Err e
      → IsFault IsOf faults text e
  fault_is text e h = subst (Says text) h (says text)

  pub ok_is : (text : List ℕ) (a : A) → outcome_by parsed faults meaning text ≡ Ok a
      → (j : J) × StandsFor IsOf text j × (faults j ≡ faultless) × (a ≡ meaning j)
  ok_is text a h = subst (Says text) h (says text)

  pub only_ok : (text : List ℕ) (j : J) → StandsFor IsOf text j → faults j ≡ faultless
      → outcome_by parsed faults meaning text ≡ Ok (meaning j)
  only_ok text j s f =
      let c = complete s.0 j s.3 in
      by_parsed text s.0 (Some j) (tokens_complete text s.0 s.1) s.2 c.0 c.1
      ∙ ap (λ z. if_faultless z.unknown z.bad (meaning j)) f

  pub keeps_limits : (text : List ℕ) (j : J) → StandsFor IsOf text j → KeepsLimits text
  keeps_limits text j s =
      λ us r. subst (λ z. are_within (unspaced z) ≡ true)
      (one_list text s.0 us s.1.spelled r.spelled) s.2
