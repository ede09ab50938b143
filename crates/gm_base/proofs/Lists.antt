-- Lemmas on lists that proofs of several crates need.
use Rattle.std.proofs.Common.{◌≡◌, ◌<◌, ℕ, zero, suc, ◌+◌, ◌-◌, Bool, true, false, ◌&&◌, ◌||◌, cond}
use Rattle.std.proofs.Common.{List, [], ◌∷◌, ◌++◌, length, map, take, drop, take_all, length-drop}
use Rattle.std.proofs.Common.{None, append_assoc, refl, ap, ◌∙◌, arith}
use Rattle.std.specs.Prelude.{slice_get}
use Rattle.std.specs.List.{AllByRecursion, list_all, list_any, prefix_len}
use Rattle.gm_base.specs.Text.{BeginsWith}

pub all_append : {X : Type 0} (P : X → Type 0) (xs ys : List X) → AllByRecursion P xs
    → AllByRecursion P ys → AllByRecursion P (xs ++ ys)
all_append P [] ys front back = back
all_append P (x ∷ xs) ys front back = (front.0, all_append P xs ys front.1 back)

pub each_as : {A : Type 0} {P Q : A → Type 0} (xs : List A) → ((x : A) → P x → Q x)
    → AllByRecursion P xs → AllByRecursion Q xs
each_as [] f each = tt
each_as (x ∷ xs) f each = (f x each.0, each_as xs f each.1)

pub any_map : {X Y : Type 0} (test : Y → Bool) (f : X → Y) (xs : List X)
    → list_any test (map f xs) ≡ list_any (λ x. test (f x)) xs
any_map test f [] = refl
any_map test f (x ∷ xs) = ap (λ b. test (f x) || b) (any_map test f xs)

pub take_front : (bytes rest : List ℕ) → take (length bytes) (bytes ++ rest) ≡ bytes
take_front [] rest = refl
take_front (b ∷ bytes) rest = ap (λ t. b ∷ t) (take_front bytes rest)

pub drop_front : (bytes rest : List ℕ) → drop (length bytes) (bytes ++ rest) ≡ rest
drop_front [] rest = refl
drop_front (b ∷ bytes) rest = drop_front bytes rest

pub take_drop : (n : ℕ) (bytes : List ℕ) → bytes ≡ take n bytes ++ drop n bytes
take_drop zero bytes = refl
take_drop (suc n) [] = refl
take_drop (suc n) (b ∷ bytes) = ap (λ t. b ∷ t) (take_drop n bytes)

-- the bytes behind a place are taken whole
pub rest_whole : (bytes : List ℕ) (n : ℕ) → take (length bytes - n) (drop n bytes) ≡ drop n bytes
rest_whole bytes n =
    take_all (length bytes - n) (drop n bytes) (omega (arith, length-drop n bytes))

pub passes_next : (test : ℕ → Bool) (b n : ℕ) (bytes : List ℕ) → test b ≡ true
    → list_all test (take n bytes) ≡ true → list_all test (take (1 + n) (b ∷ bytes)) ≡ true
passes_next test b n bytes passes rest =
    rw (one_more n) (ap (λ t. t && list_all test (take n bytes)) passes ∙ rest)
  where
    one_more : (n : ℕ) → 1 + n ≡ suc n
    one_more n = omega arith

pub run_passes : (test : ℕ → Bool) (bytes : List ℕ)
    → list_all test (take (prefix_len test bytes) bytes) ≡ true
run_passes test [] = refl
run_passes test (b ∷ bytes) =
    elim (test b) as
    (λ t. test b ≡ t
    → list_all test (take (cond t (1 + prefix_len test bytes) 0) (b ∷ bytes)) ≡ true) [
      | true ↦ λ e. passes_next test b (prefix_len test bytes) bytes e (run_passes test bytes)
      | false ↦ λ e. refl
    ] refl

pub within_list : {A : Type 0} (xs : List A) (n : ℕ) → (slice_get xs n ≡ None → ⊥) → n < length xs
within_list [] n some = absurd (some refl)
within_list (x ∷ xs) zero some = omega arith
within_list (x ∷ xs) (suc n) some = let rest = within_list xs n some in omega arith

-- what begins with a text that begins with a text
pub begins_further : (start middle end : List ℕ) → BeginsWith middle start → BeginsWith end middle
    → BeginsWith end start
begins_further start middle end a b =
    (a.0 ++ b.0, b.1 ∙ ap (λ t. t ++ b.0) a.1 ∙ append_assoc start a.0 b.0)

-- what is laid behind a text that begins with a text
pub laid_behind : (start middle end piece : List ℕ) → BeginsWith middle start
    → end ≡ middle ++ piece → BeginsWith end start
laid_behind start middle end piece a laid = begins_further start middle end a (piece, laid)

-- what follows is laid behind later
pub before : (s a b : List ℕ) {t r : List ℕ} → r ≡ t ++ b → t ≡ s ++ a → r ≡ s ++ (a ++ b)
before s a b last first = last ∙ ap (λ x. x ++ b) first ∙ append_assoc s a b
