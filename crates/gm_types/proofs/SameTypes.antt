-- Types of one name, number and canonical text are the same.
use Rattle.std.proofs.Common.{◌≡◌, ℕ, Bool, true, ◌&&◌, ◌==◌, List, refl, sym, ◌∙◌, ap, subst, ◌↔◌}
use Rattle.std.specs.Prelude.{IsTrue}
use Rattle.std.proofs.lemmas.Bool.{and_parts, and_from, eqb-true, eq-eqb}
use Rattle.gm_types.specs.FeatureType.{IsType}
use Rattle.gm_types.specs.Specification.{Specification}
use Rattle.gm_types.specs.Spelling.{canonical_text}
use Rattle.gm_types.specs.Words.{same_text}
use Rattle.gm_types.proofs.Canonical.{canonical_tells}
use Rattle.gm_types.proofs.Noted.{same_list, same_itself}

same_from : (t u : Specification) → IsType t → IsType u
    → (((t.number == u.number) && same_text t.name u.name)
    && same_text (canonical_text t) (canonical_text u)) ≡ true → t ≡ u
same_from t u a b h =
    let parts = and_parts ((t.number == u.number) && same_text t.name u.name)
    (same_text (canonical_text t) (canonical_text u)) h in
    let named = and_parts (t.number == u.number) (same_text t.name u.name) parts.0 in
    canonical_tells t u a.valid b.valid (same_list t.name u.name named.1)
    (eqb-true t.number u.number named.0)
    (same_list (canonical_text t) (canonical_text u) parts.1)

same_to : (t u : Specification) → t ≡ u
    → (((t.number == u.number) && same_text t.name u.name)
    && same_text (canonical_text t) (canonical_text u)) ≡ true
same_to t u e =
    subst (λ (v : Specification).
    (((t.number == v.number) && same_text t.name v.name)
    && same_text (canonical_text t) (canonical_text v)) ≡ true) e
    (and_from ((t.number == t.number) && same_text t.name t.name)
    (same_text (canonical_text t) (canonical_text t))
    (and_from (t.number == t.number) (same_text t.name t.name) (eq-eqb t.number t.number refl)
    (same_itself t.name))
    (same_itself (canonical_text t)))

pub same_decides : (t u : Specification) → IsType t → IsType u → (text other : List ℕ)
    → text ≡ canonical_text t → other ≡ canonical_text u
    → (b : Bool) → b ≡ (((t.number == u.number) && same_text t.name u.name) && same_text text other)
    → IsTrue b ↔ (t ≡ u)
same_decides t u a c text other et eo b e =
    let is : b ≡ (((t.number == u.number) && same_text t.name u.name)
    && same_text (canonical_text t) (canonical_text u)) =
    e ∙ ap (λ x. ((t.number == u.number) && same_text t.name u.name) && same_text x other) et
    ∙ ap (λ x. ((t.number == u.number) && same_text t.name u.name)
    && same_text (canonical_text t) x) eo in
    (λ h. same_from t u a c (sym is ∙ h), λ h. is ∙ same_to t u h)
