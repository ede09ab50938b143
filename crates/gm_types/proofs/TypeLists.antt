-- A further type in a list.
use Rattle.std.proofs.Common.{◌≡◌, ◌<◌, ◌+◌, ◌^◌, ℕ, Bool, true, false, ◌||◌, ◌==◌, List, [], ◌∷◌}
use Rattle.std.proofs.Common.{◌++◌, length, None, refl, sym, ◌∙◌, ap, subst, arith}
use Rattle.std.specs.Prelude.{not}
use Rattle.std.specs.List.{list_any}
use Rattle.std.proofs.lemmas.Bool.{and_parts, and_from, eq-eqb}
use Rattle.std.proofs.lemmas.List.{length-append, map-append}
use Rattle.gm_types.specs.Specification.{Specification}
use Rattle.gm_types.specs.TypeList.{AreTypes, type_names, are_numbered, number_of_name}
use Rattle.gm_types.specs.Words.{same_text, are_distinct}
use Rattle.gm_types.proofs.Lists.{none_found}
use Rattle.gm_types.proofs.Noted.{distinct_push, same_sym}

numbered_push : (types : List Specification) (t : Specification) (from : ℕ)
    → are_numbered from types ≡ true → t.number ≡ from + length types
    → are_numbered from (types ++ t ∷ []) ≡ true
numbered_push [] t from h e =
    and_from (t.number == from) true (eq-eqb t.number from (omega (arith, e))) refl
numbered_push (u ∷ types) t from h e =
    let parts = and_parts (u.number == from) (are_numbered (from + 1) types) h in
    and_from (u.number == from) (are_numbered (from + 1) (types ++ t ∷ [])) parts.0
    (numbered_push types t (from + 1) parts.1 (omega (arith, e)))

new_name : (name : List ℕ) (types : List Specification)
    → list_any (λ (t : Specification). same_text t.name name) types ≡ false
    → list_any (same_text name) (type_names types) ≡ false
new_name name [] h = refl
new_name name (t ∷ types) h =
    ap (λ b. b || list_any (same_text name) (type_names types)) (same_sym name t.name)
    ∙ step (same_text t.name name) (list_any (λ (u : Specification). same_text u.name name) types) h
    (new_name name types)
  where
    step : (a b : Bool) → (a || b) ≡ false
        → (b ≡ false → list_any (same_text name) (type_names types) ≡ false)
        → (a || list_any (same_text name) (type_names types)) ≡ false
    step true b e rest = e
    step false b e rest = rest e

pub types_push : (types : List Specification) (t : Specification) → AreTypes types
    → t.number ≡ length types → t.number < 2 ^ 16
    → number_of_name types t.name ≡ None → AreTypes (types ++ t ∷ [])
types_push types t are e fits h =
    let fresh = new_name t.name types
    (none_found (λ (u : Specification). same_text u.name t.name) types h) in
    record {
      numbered = numbered_push types t 0 are.numbered (omega (arith, e));
      names = ap are_distinct (map-append (λ (u : Specification). u.name) types (t ∷ []))
          ∙ distinct_push (type_names types) t.name
          ∙ and_from (are_distinct (type_names types))
          (not (list_any (same_text t.name) (type_names types)))
          are.names (ap not fresh);
      few = simp length-append (omega (arith, e, fits));
    }

pub no_types : (types : List Specification) → types ≡ [] → AreTypes types
unfolding are_distinct
no_types types e =
    subst AreTypes (sym e) record { numbered = refl; names = refl; few = omega arith }
