-- The exits of the parser of changes.
use Rattle.std.proofs.Common.{◌≡◌, ℕ, Bor, List, Option, Some, None, option_map, refl, sym, ◌∙◌, ap}
use Rattle.std.proofs.Common.{subst}
use Rattle.gm_base.proofs.Options.{no_some}
use Rattle.gm_types.specs.Specification.{Specification}
use Rattle.gm_ecql.specs.declared.halt.Halt.{Halt}
use Rattle.gm_ecql.specs.declared.halt.Halt.TheVariants as halt
use Rattle.gm_ecql.specs.declared.change.Given.{Given}
use Rattle.gm_ecql.specs.declared.token.Spaced.{Spaced}
use Rattle.gm_ecql.specs.Change.{New, given_seen, Assignment, JudgedChange, SpellsChangeJudged}
use Rattle.gm_ecql.specs.Change.{assignment_tokens_at, assignment_of, change_judged}
use Rattle.gm_ecql.specs.Change.{change_document}
use Rattle.gm_ecql.specs.Halt.{Halts}
use Rattle.gm_ecql.specs.Judging.{NameFaults, Judged, first_faults}
use Rattle.gm_ecql.specs.Parser.{document}
use Rattle.gm_ecql.specs.Token.{Seen, seen_all}
use Rattle.gm_ecql.proofs.ChangesRead.{change_complete}

-- what the code has at the front, as it is wanted
abbrev pub front_seen : Bor (List ℕ) × Given × Bor (List Spaced) → List ℕ × (New × List Seen)
front_seen x = (x.0.now, (given_seen x.1, seen_all x.2.now))

pub seen_none : (o : Option (Bor (List ℕ) × Given × Bor (List Spaced)))
    (w : Option (List ℕ × (New × List Seen)))
    → option_map front_seen o ≡ w → o ≡ None → w ≡ None
seen_none o w h e = sym h ∙ ap (option_map front_seen) e

pub seen_some : (o : Option (Bor (List ℕ) × Given × Bor (List Spaced)))
    (w : Option (List ℕ × (New × List Seen))) (x : Bor (List ℕ) × Given × Bor (List Spaced))
    → option_map front_seen o ≡ w → o ≡ Some x → w ≡ Some (front_seen x)
seen_some o w x h e = sym h ∙ ap (option_map front_seen) e

pub halts_none : {A : Type 0} (o : Option A) (e : Halt) → o ≡ None → Halts o e
halts_none o halt.Syntax h = h
halts_none o halt.NoMemory h = tt

abbrev pub with_faults : Assignment → Judged → NameFaults → JudgedChange
with_faults a j fs = record { place = a.place; holds = a.holds; meaning = j.meaning; faults = fs }

module _ (s : Specification) (ts : List Seen) where
  front_none : assignment_tokens_at ts ≡ None → change_document s ts ≡ None
  unfolding change_document
  front_none h = rw h refl

  pub front_halts : (e : Halt) → assignment_tokens_at ts ≡ None → Halts (change_document s ts) e
  front_halts e h = halts_none (change_document s ts) e (front_none h)

  assigned_none : (name : List ℕ) (given : New) (rest : List Seen)
      → assignment_tokens_at ts ≡ Some (name, (given, rest))
      → assignment_of s name given ≡ None → change_document s ts ≡ None
  unfolding change_document
  assigned_none name given rest h i = rw (h, i) refl

  pub assigned_halts : (name : List ℕ) (given : New) (rest : List Seen) (e : Halt)
      → assignment_tokens_at ts ≡ Some (name, (given, rest))
      → Halts (assignment_of s name given) e → Halts (change_document s ts) e
  assigned_halts name given rest halt.Syntax h i = assigned_none name given rest h i
  assigned_halts name given rest halt.NoMemory h i = tt

  pub change_is : (name : List ℕ) (given : New) (rest : List Seen) (a : Assignment)
      (o : Option Judged) → assignment_tokens_at ts ≡ Some (name, (given, rest))
      → assignment_of s name given ≡ Some a → document s rest ≡ o
      → change_document s ts ≡ option_map (change_judged a) o
  unfolding change_document
  change_is name given rest a None h i j = rw (h, i, j) refl
  change_is name given rest a (Some f) h i j = rw (h, i, j) refl

  pub filter_halts : (name : List ℕ) (given : New) (rest : List Seen) (a : Assignment) (e : Halt)
      → assignment_tokens_at ts ≡ Some (name, (given, rest))
      → assignment_of s name given ≡ Some a → Halts (document s rest) e
      → Halts (change_document s ts) e
  filter_halts name given rest a halt.Syntax h i j = change_is name given rest a None h i j
  filter_halts name given rest a halt.NoMemory h i j = tt

  pub change_found : (name : List ℕ) (given : New) (rest : List Seen) (a : Assignment) (j : Judged)
      (fs : NameFaults)
      → assignment_tokens_at ts ≡ Some (name, (given, rest)) → assignment_of s name given ≡ Some a
      → document s rest ≡ Some j
      → fs ≡ first_faults a.faults j.faults → change_document s ts ≡ Some (with_faults a j fs)
  change_found name given rest a j fs h i k e =
      change_is name given rest a (Some j) h i k ∙ ap (λ f. Some (with_faults a j f)) (sym e)

  pub no_change : (e : Halt) → Halts (change_document s ts) e → e ≡ halt.Syntax → (c : JudgedChange)
      → SpellsChangeJudged s ts c → ⊥
  no_change e h same c w =
      no_some c (sym (subst (λ z. Halts (change_document s ts) z) same h)
      ∙ change_complete s ts c w)
