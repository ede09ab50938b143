-- Rows that are handed out, one more.
use Rattle.std.proofs.Common.{◌≡◌, List, [], ◌∷◌, ◌++◌, ℕ, map, refl, subst, arith}
use Rattle.std.proofs.lemmas.Grind.{common_steps}
use Rattle.std.proofs.lemmas.List.Elements.{All-head, All-tail}
use Rattle.std.specs.Prelude.{Result, Ok, ⊤, All}
use Rattle.gm_base.specs.declared.NoMemory.{NoMemory}
use Rattle.gm_table.specs.Visit.{Handed}

pub Handed-more : {V A : Type 0} (takes : V → List ℕ → List ℕ → Result ⊤ NoMemory → V → Type 0)
    (shows : A → List ℕ × List ℕ) (a b c : V) (so_far : List A) (x : A)
    → Handed takes a (map shows so_far) b → takes b (shows x).0 (shows x).1 (Ok tt) c
    → Handed takes a (map shows (so_far ++ x ∷ [])) c
Handed-more takes shows a b c [] x h t =
    (c, subst (λ v. takes v (shows x).0 (shows x).1 (Ok tt) c) h t, refl)
Handed-more takes shows a b c (r ∷ so_far) x h t =
    (h.0, h.1, Handed-more takes shows h.0 b c so_far x h.2 t)

-- the next of the rows that are left is handed out
pub rows_more : {A X : Type 0} (shows : A → X) (so_far : List A) (x : A) (left later all : List X)
    → map shows so_far ++ left ≡ all → left ≡ shows x ∷ later
    → map shows (so_far ++ x ∷ []) ++ later ≡ all
rows_more shows so_far x left later all whole next = grind (arith, common_steps)

-- one of the rows has what each of them has
pub one_of : {X : Type 0} (P : X → Type 0) (front : List X) (x : X) (rest : List X)
    → All P (front ++ x ∷ rest) → P x
one_of P [] x rest each = All-head P x rest each
one_of P (y ∷ front) x rest each = one_of P front x rest (All-tail P y (front ++ x ∷ rest) each)
