-- A change that has no fault assigns a value that its attribute may hold.
use Rattle.std.proofs.Common.{◌≡◌, ℕ, Bool, true, false, cond, List, Option, Some, None, option_map}
use Rattle.std.proofs.Common.{option_and_then, refl, sym, ap, ◌∙◌, subst}
use Rattle.gm_base.proofs.Options.{same_some, no_some, map_some}
use Rattle.gm_types.specs.declared.kind.Kind.{Kind}
use Rattle.gm_types.specs.Specification.{Specification, place_of_name, kind_at}
use Rattle.gm_feature.specs.declared.value.Value.{Value}
use Rattle.gm_feature.specs.Value.{value_fits}
use Rattle.gm_ecql.specs.Change.{New, Assignment, JudgedChange, new_value, is_new_spelled, faulty}
use Rattle.gm_ecql.specs.Change.{assigned, kept_value, place_and_kind, assignment_at, assignment_of}
use Rattle.gm_ecql.specs.Change.{assignment_tokens_at, change_judged, change_document}
use Rattle.gm_ecql.specs.Judging.{faultless, first_name, first_faults}
use Rattle.gm_ecql.specs.Outcome.{MayHold}
use Rattle.gm_ecql.specs.Parser.{document}
use Rattle.gm_ecql.specs.Reader.{◌>>=◌}
use Rattle.gm_ecql.specs.Token.{Seen}

some_none : {A P : Type 0} (x : A) → ◌≡◌ {A = Option A} (Some x) None → P
some_none x e = absurd (cc)

bound : {A B : Type 0} (o : Option A) (f : A → Option B) (y : B) → (o >>= f) ≡ Some y
    → (x : A) × (o ≡ Some x) × (f x ≡ Some y)
bound None f y e = no_some y e
bound (Some x) f y e = (x, refl, e)

no_name : (earlier later : Option (List ℕ)) → first_name earlier later ≡ None → earlier ≡ None
no_name None later e = refl
no_name (Some name) later e = some_none name e

-- an assignment with an unknown or a bad name is none without faults
faultless_not : {P : Type 0} (name : List ℕ) (o : Option (List ℕ)) → o ≡ Some name → o ≡ None → P
faultless_not name o e f = some_none name (sym e ∙ f)

place_kind : (s : Specification) (o : Option ℕ) (p : ℕ × Kind)
    → option_and_then (λ a. option_map (λ k. (a, k)) (kind_at s a)) o ≡ Some p
    → kind_at s p.0 ≡ Some p.1
place_kind s None p e = no_some p e
place_kind s (Some a) p e =
    let m = map_some (λ k. (a, k)) (kind_at s a) p e in
    subst (λ z. kind_at s z.0 ≡ Some z.1) m.2 m.1

fitting : (s : Specification) (k : Kind) (name : List ℕ) (a : ℕ) (v : Value) (x : Assignment)
    → kind_at s a ≡ Some k → kept_value k name a (Some v) ≡ x
    → x.faults.bad ≡ None → MayHold s x.place x.holds
fitting s k name a v x there e clean =
    elim (value_fits k v) as
    (λ b. value_fits k v ≡ b → cond b (assigned a v) (faulty None (Some name)) ≡ x
    → MayHold s x.place x.holds) [
      | true ↦ λ f e. subst (λ z. MayHold s z.place z.holds) e
          (record { kind = k; there = there; fits = f })
      | false ↦ λ f e. faultless_not name x.faults.bad (sym (ap (λ z. z.faults.bad) e)) clean
    ] refl e

valued : (s : Specification) (k : Kind) (name : List ℕ) (a : ℕ) (o : Option Value) (x : Assignment)
    → kind_at s a ≡ Some k → kept_value k name a o ≡ x
    → x.faults.bad ≡ None → MayHold s x.place x.holds
valued s k name a None x there e clean =
    faultless_not name x.faults.bad (sym (ap (λ z. z.faults.bad) e)) clean
valued s k name a (Some v) x there e clean = fitting s k name a v x there e clean

unknown_is : (b : Bool) (name : List ℕ) (x : Assignment)
    → cond b (Some (faulty (Some name) None)) None ≡ Some x → x.faults.unknown ≡ Some name
unknown_is true name x e =
    sym (ap (λ z. z.faults.unknown) (same_some (faulty (Some name) None) x e))
unknown_is false name x e = no_some x e

placed : (s : Specification) (name : List ℕ) (n : New) (o : Option (ℕ × Kind)) (x : Assignment)
    → place_and_kind s name ≡ o → assignment_at name n o ≡ Some x
    → x.faults.unknown ≡ None → x.faults.bad ≡ None → MayHold s x.place x.holds
placed s name n None x is e known clean =
    faultless_not name x.faults.unknown (unknown_is (is_new_spelled n) name x e) known
placed s name n (Some p) x is e known clean =
    let m = map_some (kept_value p.1 name p.0) (new_value p.1 n) x e in
    valued s p.1 name p.0 m.0 x (place_kind s (place_of_name s name) p is) m.2 clean

pub change_holds : (s : Specification) (ts : List Seen) (c : JudgedChange)
    → change_document s ts ≡ Some c → c.faults ≡ faultless → MayHold s c.place c.holds
unfolding change_document
change_holds s ts c e sound =
    let front = bound (assignment_tokens_at ts) _ c e in
    let a = bound (assignment_of s front.0.0 front.0.1.0) _ c front.2 in
    let j = bound (document s front.0.1.1) _ c a.2 in
    let is : change_judged a.0 j.0 ≡ c = same_some (change_judged a.0 j.0) c j.2 in
    let faults : first_faults a.0.faults j.0.faults ≡ faultless = ap (λ z. z.faults) is ∙ sound in
    subst (λ z. MayHold s z.place z.holds) is
    (placed s front.0.0 front.0.1.0 (place_and_kind s front.0.0) a.0 refl a.1
    (no_name a.0.faults.unknown j.0.faults.unknown (ap (λ z. z.unknown) faults))
    (no_name a.0.faults.bad j.0.faults.bad (ap (λ z. z.bad) faults)))
