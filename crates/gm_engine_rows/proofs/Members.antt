-- What is among the entries of a list, by key.
use Rattle.std.proofs.Common.{◌≡◌, ℕ, Bool, true, false, true≢false, cond, ◌||◌, ◌⊎◌, T, inl}
use Rattle.std.proofs.Common.{inr, ⊎_elim, List, [], ◌∷◌, ◌++◌, map, filter, filter_map, Option}
use Rattle.std.proofs.Common.{Some, None, refl, sym, ap, subst, ◌∙◌}
use Rattle.std.specs.List.{flat_map, cons_option}
use Rattle.std.specs.Ordering.{nat_cmp, eq_by_cmp, is_eq, is_lt}
use Rattle.std.specs.Cmp.{Equal-is, tied_itself}
use Rattle.std.specs.Cmp.Lexicographic.{slice_cmp, nat_list_cmp_total}
use Rattle.std.specs.FinMap.{find, is_sorted, slice_cmp-IsAntisymmetric, nat_cmp-IsAntisymmetric}
use Rattle.std.specs.FinMap.Entries.{below_all}
use Rattle.gm_base.proofs.Options.{same_some}
use Rattle.gm_base.proofs.Booleans.{true_or_false, both_of-T}
use Rattle.gm_table.specs.Batch.{has_key}

-- ---- keys that are the same
abbrev pub is_key : List ℕ → List ℕ → Bool
is_key = eq_by_cmp (slice_cmp nat_cmp)

pub same_key : (a b : List ℕ) → is_key a b ≡ true → a ≡ b
same_key a b is = slice_cmp-IsAntisymmetric nat_cmp-IsAntisymmetric a b ((Equal-is _).0 is)

pub key_itself : (a : List ℕ) → is_key a a ≡ true
key_itself a = ap is_eq (tied_itself nat_list_cmp_total a)

pub is_same : (a b : List ℕ) → a ≡ b → is_key a b ≡ true
is_same a b same = subst (λ k. is_key a k ≡ true) same (key_itself a)

pub not_key : (a b : List ℕ) → (a ≡ b → ⊥) → is_key a b ≡ false
not_key a b apart =
    elim (is_key a b) as (λ t. is_key a b ≡ t → t ≡ false)
    [ true ↦ λ is. absurd (apart (same_key a b is)) | false ↦ λ _. refl ] refl

pub same_or_not : (a b : List ℕ) → (a ≡ b) ⊎ (a ≡ b → ⊥)
same_or_not a b = ⊎_elim
    (λ is. inl (same_key a b is))
    (λ isnt. inr (λ same. true≢false (sym (is_same a b same) ∙ isnt)))
    (true_or_false (is_key a b))

-- ---- members
abbrev pub In : {A : Type 0} → A → List A → Type 0
In x [] = ⊥
In x (y ∷ ys) = (x ≡ y) ⊎ In x ys

abbrev pub Has : {V : Type 0} → List (List ℕ × V) → List ℕ → V → Type 0
Has [] key v = ⊥
Has (e ∷ es) key v = ((key ≡ e.0) × (v ≡ e.1)) ⊎ Has es key v

pub in_keys : (key : List ℕ) (keys : List (List ℕ)) → has_key key keys ≡ true → In key keys
in_keys key [] is = cc
in_keys key (k ∷ keys) is =
    elim (is_key key k) as
    (λ t. is_key key k ≡ t → (t || has_key key keys) ≡ true → In key (k ∷ keys)) [
      | true ↦ λ at _. inl (same_key key k at)
      | false ↦ λ _ later. inr (in_keys key keys later)
    ] refl is

pub has_in : (key : List ℕ) (keys : List (List ℕ)) → In key keys → has_key key keys ≡ true
has_in key [] member = absurd member
has_in key (k ∷ keys) (inl same) = ap (λ t. t || has_key key keys) (is_same key k same)
has_in key (k ∷ keys) (inr later) =
    elim (is_key key k) as (λ t. (t || has_key key keys) ≡ true)
    [ true ↦ refl | false ↦ has_in key keys later ]

pub find_out : {V : Type 0} (key : List ℕ) (v : V) (es : List (List ℕ × V))
    → find (slice_cmp nat_cmp) key es ≡ Some v → Has es key v
find_out key v [] is = cc
find_out key v (e ∷ es) is =
    elim (is_key key e.0) as
    (λ t. is_key key e.0 ≡ t → cond t (Some e.1) (find (slice_cmp nat_cmp) key es) ≡ Some v
    → Has (e ∷ es) key v) [
      | true ↦ λ at here. inl (same_key key e.0 at, sym (same_some e.1 v here))
      | false ↦ λ _ later. inr (find_out key v es later)
    ] refl is

has_some : {V : Type 0} (key : List ℕ) (v : V) (es : List (List ℕ × V)) → Has es key v
    → (w : V) × (find (slice_cmp nat_cmp) key es ≡ Some w)
has_some key v [] has = absurd has
has_some key v (e ∷ es) (inl both) =
    (e.1, ap (λ t. cond t (Some e.1) (find (slice_cmp nat_cmp) key es)) (is_same key e.0 both.0))
has_some {V = V} key v (e ∷ es) (inr later) =
    elim (is_key key e.0) as
    (λ t. (w : V) × (cond t (Some e.1) (find (slice_cmp nat_cmp) key es) ≡ Some w))
    [ true ↦ (e.1, refl) | false ↦ has_some key v es later ]

pub find_in : {V : Type 0} (key : List ℕ) (v : V) (es : List (List ℕ × V)) → Has es key v
    → ((w : V) → Has es key w → w ≡ v) → find (slice_cmp nat_cmp) key es ≡ Some v
find_in key v es has one = let some = has_some key v es has in
    some.1 ∙ ap (λ w. Some w) (one some.0 (find_out key some.0 es some.1))

-- ---- joined lists
has_left : {V : Type 0} (key : List ℕ) (v : V) (one other : List (List ℕ × V)) → Has one key v
    → Has (one ++ other) key v
has_left key v [] other has = absurd has
has_left key v (e ∷ one) other (inl both) = inl both
has_left key v (e ∷ one) other (inr later) = inr (has_left key v one other later)

has_right : {V : Type 0} (key : List ℕ) (v : V) (one other : List (List ℕ × V)) → Has other key v
    → Has (one ++ other) key v
has_right key v [] other has = has
has_right key v (e ∷ one) other has = inr (has_right key v one other has)

pub has_either : {V : Type 0} (key : List ℕ) (v : V) (one other : List (List ℕ × V))
    → Has (one ++ other) key v → Has one key v ⊎ Has other key v
has_either key v [] other has = inr has
has_either key v (e ∷ one) other (inl both) = inl (inl both)
has_either key v (e ∷ one) other (inr later) =
    ⊎_elim (λ h. inl (inr h)) (λ h. inr h) (has_either key v one other later)

pub has_first : {V : Type 0} (key : List ℕ) (v : V) (one other : List (List ℕ × V)) → Has one key v
    → Has (one ++ other) key v
has_first = has_left

pub has_second : {V : Type 0} (key : List ℕ) (v : V) (one other : List (List ℕ × V))
    → Has other key v → Has (one ++ other) key v
has_second = has_right

pub has_flat_out : {A V : Type 0} (g : A → List (List ℕ × V)) (xs : List A) (key : List ℕ) (v : V)
    → Has (flat_map g xs) key v → (x : A) × In x xs × Has (g x) key v
has_flat_out g [] key v has = absurd has
has_flat_out g (x ∷ xs) key v has = ⊎_elim
    (λ here. (x, inl refl, here))
    (λ later. let found = has_flat_out g xs key v later in (found.0, inr found.1, found.2))
    (has_either key v (g x) (flat_map g xs) has)

pub has_flat_in : {A V : Type 0} (g : A → List (List ℕ × V)) (xs : List A) (x : A) (key : List ℕ)
    (v : V) → In x xs → Has (g x) key v → Has (flat_map g xs) key v
has_flat_in g [] x key v member has = absurd member
has_flat_in g (y ∷ xs) x key v (inl same) has =
    has_left key v (g y) (flat_map g xs) (subst (λ z. Has (g z) key v) same has)
has_flat_in g (y ∷ xs) x key v (inr later) has =
    has_right key v (g y) (flat_map g xs) (has_flat_in g xs x key v later has)

-- ---- rows of the same bytes
pub has_rows_out : (keys : List (List ℕ)) (bytes key v : List ℕ)
    → Has (map (λ k. (k, bytes)) keys) key v → In key keys × (v ≡ bytes)
has_rows_out [] bytes key v has = absurd has
has_rows_out (k ∷ keys) bytes key v (inl both) = (inl both.0, both.1)
has_rows_out (k ∷ keys) bytes key v (inr later) = let rest = has_rows_out keys bytes key v later in
    (inr rest.0, rest.1)

pub has_rows_in : (keys : List (List ℕ)) (bytes key : List ℕ) → In key keys
    → Has (map (λ k. (k, bytes)) keys) key bytes
has_rows_in [] bytes key member = absurd member
has_rows_in (k ∷ keys) bytes key (inl same) = inl (same, refl)
has_rows_in (k ∷ keys) bytes key (inr later) = inr (has_rows_in keys bytes key later)

-- ---- what a function gives of those that pass a test
pub kept_out : {A B : Type 0} (f : A → Option B) (test : A → Bool) (xs : List A) (y : B)
    → In y (filter_map f (filter test xs)) → (x : A) × (test x ≡ true) × (f x ≡ Some y) × In x xs
kept_out f test [] y member = absurd member
kept_out {A = A} {B = B} f test (x ∷ xs) y member =
    let past : In y (filter_map f (filter test xs))
    → (z : A) × (test z ≡ true) × (f z ≡ Some y) × In z (x ∷ xs) =
    λ later. let rest = kept_out f test xs y later in (rest.0, rest.1, rest.2, inr rest.3) in
    elim (test x) as
    (λ t. test x ≡ t → In y (filter_map f (cond t (x ∷ filter test xs) (filter test xs)))
    → (z : A) × (test z ≡ true) × (f z ≡ Some y) × In z (x ∷ xs)) [
      | true ↦ λ passes here. elim (f x) as
          (λ o. f x ≡ o → In y (cons_option o (filter_map f (filter test xs)))
          → (z : A) × (test z ≡ true) × (f z ≡ Some y) × In z (x ∷ xs)) [
            | None ↦ λ _ later. past later
            | Some b ↦ λ is either. ⊎_elim
                (λ same. (x, passes, is ∙ ap (λ (w : B). Some w) (sym same), inl refl)) past either
          ] refl here
      | false ↦ λ _ later. past later
    ] refl member

pub kept_in : {A B : Type 0} (f : A → Option B) (test : A → Bool) (xs : List A) (x : A) (y : B)
    → In x xs → test x ≡ true → f x ≡ Some y → In y (filter_map f (filter test xs))
kept_in f test [] x y member passes is = absurd member
kept_in f test (z ∷ xs) x y (inl same) passes is =
    let passes' : test z ≡ true = ap test (sym same) ∙ passes in
    let is' : f z ≡ Some y = ap f (sym same) ∙ is in
    subst (λ t. In y (filter_map f (cond t (z ∷ filter test xs) (filter test xs)))) (sym passes')
    (subst (λ o. In y (cons_option o (filter_map f (filter test xs)))) (sym is') (inl refl))
kept_in f test (z ∷ xs) x y (inr later) passes is =
    let rest = kept_in f test xs x y later passes is in
    elim (test z) as (λ t. In y (filter_map f (cond t (z ∷ filter test xs) (filter test xs)))) [
      | true ↦ elim (f z) as (λ o. In y (cons_option o (filter_map f (filter test xs))))
          [ None ↦ rest | Some b ↦ inr rest ]
      | false ↦ rest
    ]

less_not_key : (a b : List ℕ) → T (is_lt (slice_cmp nat_cmp a b)) → (b ≡ a → ⊥)
less_not_key a b less same =
    subst (λ r. T (is_lt r)) (tied_itself nat_list_cmp_total a)
    (subst (λ k. T (is_lt (slice_cmp nat_cmp a k))) same less)

above : {V : Type 0} (key : List ℕ) (es : List (List ℕ × V)) (e : List ℕ × V)
    → T (below_all (slice_cmp nat_cmp) key es) → In e es → (e.0 ≡ key → ⊥)
above key [] e below member = absurd member
above key (x ∷ es) e below (inl same) =
    λ at. less_not_key key x.0 (both_of-T _ _ below).0 (ap (λ p. p.0) (sym same) ∙ at)
above key (x ∷ es) e below (inr later) = above key es e (both_of-T _ _ below).1 later

-- each entry of a sorted list is found by its key
pub found : {V : Type 0} (es : List (List ℕ × V)) (e : List ℕ × V)
    → T (is_sorted (slice_cmp nat_cmp) es) → In e es → find (slice_cmp nat_cmp) e.0 es ≡ Some e.1
found [] e sorted member = absurd member
found {V = V} (x ∷ es) e sorted (inl same) =
    ap (λ t. cond t (Some x.1) (find (slice_cmp nat_cmp) e.0 es))
    (is_same e.0 x.0 (ap (λ p. p.0) same)) ∙ ap (λ (p : List ℕ × V). Some p.1) (sym same)
found (x ∷ es) e sorted (inr later) =
    let h = both_of-T _ _ sorted in
    ap (λ t. cond t (Some x.1) (find (slice_cmp nat_cmp) e.0 es))
    (not_key e.0 x.0 (above x.0 es e h.0 later)) ∙ found es e h.1 later

-- and what is found by a key is an entry
pub entry_of : {V : Type 0} (es : List (List ℕ × V)) (key : List ℕ) (v : V) → Has es key v
    → In (key, v) es
entry_of [] key v has = absurd has
entry_of (e ∷ es) key v (inl both) = inl (λ i. (both.0 i, both.1 i))
entry_of (e ∷ es) key v (inr later) = inr (entry_of es key v later)
