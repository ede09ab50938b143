-- Forms and middles of keys.
use Rattle.std.proofs.Common.{◌≡◌, ◌≤◌, ℕ, ◌-◌, ℤ, IsTrue, Bool, true, false, ◌&&◌, List, ◌++◌}
use Rattle.std.proofs.Common.{length, take, drop, IsUtf8, Option, Some, refl, sym, ap, subst}
use Rattle.std.proofs.Common.{◌∙◌, arith, length-append, append_assoc}
use Rattle.std.proofs.lemmas.List.{take_at}
use Rattle.std.proofs.Math.Seq.{drop-append_seam as drop-append}
use Rattle.std.proofs.lemmas.Str.{is_utf8-from_IsUtf8, IsUtf8-from_is_utf8}
use Rattle.std.specs.Str.{is_utf8}
use Rattle.gm_base.proofs.Booleans.{false_of_never}
use Rattle.gm_base.specs.Identifier.{is_identifier, has_identifier_form}
use Rattle.gm_types.specs.declared.index.IndexKind.{IndexKind}
use Rattle.gm_types.specs.Index.{has_index}
use Rattle.gm_types.specs.Specification.{Specification}
use Rattle.gm_keys.specs.Key.{prefix_of}
use Rattle.gm_keys.specs.Layout.{IsMiddle, IsIdAt}
use Rattle.gm_lexi.specs.Lexicode.{int_bytes, long_bytes}

-- ---- identifiers
pub identifier_is : (bytes : List ℕ) (r : Bool) → IsUtf8 bytes → r ≡ has_identifier_form bytes
    → r ≡ is_identifier bytes
identifier_is bytes r utf8 is =
    is ∙ ap (λ t. t && has_identifier_form bytes) (sym (is_utf8-from_IsUtf8 bytes utf8))

pub no_identifier : (bytes : List ℕ) → (IsUtf8 bytes → ⊥) → false ≡ is_identifier bytes
no_identifier bytes not_utf8 =
    ap (λ t. t && has_identifier_form bytes)
    (sym (false_of_never (is_utf8 bytes) (λ is. not_utf8 (IsUtf8-from_is_utf8 bytes is))))

-- ---- forms
pub length-int : (z : ℤ) → length (int_bytes z) ≡ 4
unfolding int_bytes
length-int z = refl

pub length-long : (z : ℤ) → length (long_bytes z) ≡ 8
unfolding long_bytes
length-long z = refl

-- bytes that begin with a form
pub form_at : (form bytes : List ℕ) (n : ℕ) → length form ≡ n → bytes ≡ form ++ drop n bytes
    → (n ≤ length bytes) × (take n bytes ≡ form)
form_at form bytes n long is = (
  subst (λ (m : ℕ). m ≤ length bytes) long
      (omega (arith, ap length is, length-append form (drop n bytes))),
  ap (take n) is
      ∙ take_at form (drop n bytes) n long,
)

pub second_is : {A : Type 0} (a b : A) (n m : ℕ)
    → ◌≡◌ {A = Option (A × ℕ)} (Some (a, n)) (Some (b, m)) → n ≡ m
second_is {A = A} a b n m same = let pair : ◌≡◌ {A = A × ℕ} (a, n) (b, m) = cc in ap (λ p. p.1) pair

-- ---- identifiers at the end
-- what stands between the prefix and what follows it
pub drop_to : (p m id : List ℕ) (n : ℕ) → n ≡ length (p ++ (m ++ id)) - length id
    → drop n (p ++ (m ++ id)) ≡ id
drop_to p m id n is =
    let size : n ≡ length (p ++ m) =
    omega (arith, is, length-append p (m ++ id), length-append m id, length-append p m) in
    ap (λ (k : ℕ). drop k (p ++ (m ++ id))) size
    ∙ ap (drop (length (p ++ m))) (sym (append_assoc p m id)) ∙ drop-append (p ++ m) id

pub id_found : (t : Specification) (kind : IndexKind) (key rest id middle : List ℕ)
    → has_index t kind ≡ true → key ≡ prefix_of t kind ++ rest → IsMiddle t kind middle
    → rest ≡ middle ++ id → is_identifier id ≡ true
    → IsTrue (has_index t kind) × IsIdAt t kind key (length key - length id, length key)
id_found t kind key rest id middle has begins middle_is follows identifier =
    let parts : key ≡ prefix_of t kind ++ (middle ++ id) =
    begins ∙ ap (λ x. prefix_of t kind ++ x) follows in
    let end : drop (length key - length id) key ≡ id =
    ap (drop (length key - length id)) parts
    ∙ drop_to (prefix_of t kind) middle id (length key - length id)
    (ap (λ x. length x - length id) parts) in (
      has,
      (
        refl,
        (
          middle,
          record {
            parts = parts ∙ ap (λ x. prefix_of t kind ++ (middle ++ x)) (sym end);
            middle_is = middle_is;
            identifier = ap is_identifier end ∙ identifier;
          },
        ),
      ),
    )
