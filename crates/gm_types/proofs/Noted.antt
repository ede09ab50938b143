-- Texts that stand once each, as far as they are seen.
use Rattle.std.proofs.Common.{◌≡◌, ◌<◌, ℕ, zero, suc, ◌+◌, Bool, true, false, ◌&&◌, ◌||◌, ◌==◌}
use Rattle.std.proofs.Common.{List, [], ◌∷◌, ◌++◌, length, take, drop, get_or, refl, sym, ◌∙◌, ap}
use Rattle.std.proofs.Common.{subst, arith, append_assoc, add-one}
use Rattle.std.specs.Prelude.{not, if◌then◌else◌, map}
use Rattle.std.specs.List.{list_any}
use Rattle.std.specs.BTreeSet.{BTreeSet}
use Rattle.std.specs.Cmp.Lexicographic.{slice_cmp}
use Rattle.std.specs.Ordering.{nat_cmp, is_eq}
use Rattle.std.proofs.lemmas.Bool.{eqb-true, eq-eqb, and_parts, and_right, not-true, not-false}
use Rattle.std.proofs.lemmas.List.{map-append}
use Rattle.std.proofs.Math.Seq.{take-suc}
use Rattle.std.proofs.lemmas.Map.Text.{is_eq-slice_cmp}
use Rattle.gm_types.specs.Distinct.{has_text, Notes}
use Rattle.gm_types.specs.Words.{are_distinct, same_text}

pub same_list : (a b : List ℕ) → same_text a b ≡ true → a ≡ b
same_list [] [] e = refl
same_list [] (y ∷ ys) e = absurd (cc)
same_list (x ∷ xs) [] e = absurd (cc)
same_list (x ∷ xs) (y ∷ ys) e =
    let each = and_parts (x == y) (same_text xs ys) e in
    ap (λ n. n ∷ xs) (eqb-true x y each.0) ∙ ap (λ l. y ∷ l) (same_list xs ys each.1)

pub same_itself : (a : List ℕ) → same_text a a ≡ true
same_itself [] = refl
same_itself (x ∷ xs) = ap (λ t. t && same_text xs xs) (eq-eqb x x refl) ∙ same_itself xs

pub same_sym : (a b : List ℕ) → same_text a b ≡ same_text b a
same_sym a b = both (same_text a b) (same_text b a) refl refl
  where
    both : (s t : Bool) → same_text a b ≡ s → same_text b a ≡ t → s ≡ t
    both true true e f = refl
    both false false e f = refl
    both true false e f = sym (same_itself b) ∙ ap (λ c. same_text b c) (sym (same_list a b e)) ∙ f
    both false true e f = sym e ∙ ap (λ c. same_text a c) (same_list b a f) ∙ same_itself a

-- the texts so far stand once each, and are those that are seen
pub record AreNoted (seen : BTreeSet (List ℕ)) (texts : List (List ℕ)) : Type 0 where
  pub distinct : are_distinct texts ≡ true
  pub seen_are : (text : List ℕ) → has_text seen text ≡ list_any (same_text text) texts

any_push : (test : List ℕ → Bool) (xs : List (List ℕ)) (x : List ℕ)
    → list_any test (xs ++ x ∷ []) ≡ (test x || list_any test xs)
any_push test [] x = refl
any_push test (y ∷ ys) x =
    ap (λ t. test y || t) (any_push test ys x) ∙ swap (test y) (test x) (list_any test ys)
  where
    swap : (a b c : Bool) → (a || (b || c)) ≡ (b || (a || c))
    swap true true c = refl
    swap true false c = refl
    swap false b c = refl

pub distinct_push : (xs : List (List ℕ)) (x : List ℕ)
    → are_distinct (xs ++ x ∷ []) ≡ (are_distinct xs && not (list_any (same_text x) xs))
unfolding are_distinct
distinct_push [] x = refl
distinct_push (y ∷ ys) x =
    ap (λ t. not t && are_distinct (ys ++ x ∷ [])) (any_push (same_text y) ys x)
    ∙ ap (λ t. not (same_text y x || list_any (same_text y) ys) && t) (distinct_push ys x)
    ∙ ap (λ t. not (t || list_any (same_text y) ys)
    && (are_distinct ys && not (list_any (same_text x) ys))) (same_sym y x)
    ∙ regroup (same_text x y) (list_any (same_text y) ys) (are_distinct ys)
    (list_any (same_text x) ys)
  where
    regroup : (a b c d : Bool) → (not (a || b) && (c && not d)) ≡ ((not b && c) && not (a || d))
    regroup true true c d = refl
    regroup true false true d = refl
    regroup true false false d = refl
    regroup false true c d = refl
    regroup false false c d = refl

any_more : (test : List ℕ → Bool) (us vs : List (List ℕ)) → list_any test us ≡ true
    → list_any test (us ++ vs) ≡ true
any_more test [] vs h = absurd (cc)
any_more test (u ∷ us) vs h = more (test u) refl (any_more test us vs)
  where
    more : (b : Bool) → test u ≡ b → (list_any test us ≡ true → list_any test (us ++ vs) ≡ true)
        → (test u || list_any test (us ++ vs)) ≡ true
    more true e rest = ap (λ b. b || list_any test (us ++ vs)) e
    more false e rest =
        ap (λ b. b || list_any test (us ++ vs)) e
        ∙ rest (sym (ap (λ b. b || list_any test us) e) ∙ h)

distinct_more : (xs ys : List (List ℕ)) → are_distinct xs ≡ false → are_distinct (xs ++ ys) ≡ false
unfolding are_distinct
distinct_more [] ys e = absurd (cc)
distinct_more (x ∷ xs) ys e = go (list_any (same_text x) xs) refl (distinct_more xs ys)
  where
    go : (b : Bool) → list_any (same_text x) xs ≡ b
        → (are_distinct xs ≡ false → are_distinct (xs ++ ys) ≡ false)
        → (not (list_any (same_text x) (xs ++ ys)) && are_distinct (xs ++ ys)) ≡ false
    go true t rest = ap (λ b. not b && are_distinct (xs ++ ys)) (any_more (same_text x) xs ys t)
    go false t rest = and_right (not (list_any (same_text x) (xs ++ ys))) (are_distinct (xs ++ ys))
        (rest (sym (ap (λ b. not b && are_distinct xs) t) ∙ e))

pub none_noted : (seen : BTreeSet (List ℕ)) → seen.keys ≡ [] → AreNoted seen []
unfolding are_distinct
none_noted seen e = record {
  distinct = refl;
  seen_are = λ text. ap (λ keys. list_any (λ k. is_eq (slice_cmp nat_cmp text k)) keys) e;
}

pub one_noted : (before after : BTreeSet (List ℕ)) (texts : List (List ℕ)) (text : List ℕ)
    → AreNoted before texts → Notes before after text true
    → AreNoted after (texts ++ text ∷ [])
one_noted before after texts text noted notes =
    let fresh : list_any (same_text text) texts ≡ false =
    sym (noted.seen_are text) ∙ not-true (has_text before text) (sym notes.was) in
    record {
      distinct = distinct_push texts text
          ∙ ap (λ b. b && not (list_any (same_text text) texts)) noted.distinct ∙ ap not fresh;
      seen_are = λ other. notes.seen other
          ∙ ap (λ b. b || has_text before other) (same_sym text other)
          ∙ ap (λ b. same_text other text || b) (noted.seen_are other)
          ∙ sym (any_push (same_text other) texts text);
    }

pub twice_noted : (before after : BTreeSet (List ℕ)) (texts more : List (List ℕ)) (text : List ℕ)
    → AreNoted before texts
    → Notes before after text false → are_distinct (texts ++ text ∷ more) ≡ false
twice_noted before after texts more text noted notes =
    let known : list_any (same_text text) texts ≡ true =
    sym (noted.seen_are text) ∙ not-false (has_text before text) (sym notes.was) in
    ap are_distinct (sym (append_assoc texts (text ∷ []) more))
    ∙ distinct_more (texts ++ text ∷ []) more
    (distinct_push texts text ∙ ap (λ b. are_distinct texts && not b) known
    ∙ and_right (are_distinct texts) false refl)

-- the names of a list, one element further
pub names_more : {A : Type 0} (name : A → List ℕ) (xs : List A) (i : ℕ) (d : A) → i < length xs
    → map name (take (i + 1) xs) ≡ map name (take i xs) ++ name (get_or xs i d) ∷ []
names_more name xs i d h =
    rw (add-one, take-suc xs i d h) (map-append name (take i xs) (get_or xs i d ∷ []))

pub names_split : {A : Type 0} (name : A → List ℕ) (xs : List A) (i : ℕ) (d : A) → i < length xs
    → map name xs ≡ map name (take i xs) ++ name (get_or xs i d) ∷ map name (drop (suc i) xs)
names_split name [] i d h = absurd (omega arith)
names_split name (x ∷ xs) zero d h = refl
names_split name (x ∷ xs) (suc i) d h = ap (λ t. name x ∷ t) (names_split name xs i d (omega arith))

-- one more element of a list is noted
pub noted_next : {A : Type 0} (name : A → List ℕ) (xs : List A) (i : ℕ) (x : A)
    (before after : BTreeSet (List ℕ)) → i < length xs
    → x ≡ get_or xs i x → AreNoted before (map name (take i xs)) → Notes before after (name x) true
    → AreNoted after (map name (take (i + 1) xs))
noted_next name xs i x before after h is noted notes =
    subst (AreNoted after)
    (sym (names_more name xs i x h ∙ ap (λ y. map name (take i xs) ++ name y ∷ []) (sym is)))
    (one_noted before after (map name (take i xs)) (name x) noted notes)

pub noted_twice : {A : Type 0} (name : A → List ℕ) (xs : List A) (i : ℕ) (x : A)
    (before after : BTreeSet (List ℕ)) → i < length xs
    → x ≡ get_or xs i x → AreNoted before (map name (take i xs)) → Notes before after (name x) false
    → are_distinct (map name xs) ≡ false
noted_twice name xs i x before after h is noted notes =
    ap are_distinct
    (names_split name xs i x h
    ∙ ap (λ y. map name (take i xs) ++ name y ∷ map name (drop (suc i) xs)) (sym is))
    ∙ twice_noted before after (map name (take i xs)) (map name (drop (suc i) xs))
    (name x) noted notes

pub note_added : (before after : BTreeSet (List ℕ)) (text : List ℕ) (added : Bool)
    → added ≡ not (has_text before text)
    → ((q : List ℕ)
    → has_text after q ≡ (if is_eq (slice_cmp nat_cmp text q) then true else has_text before q))
    → Notes before after text added
note_added before after text added was seen = record {
  was = was;
  seen = λ other. seen other
      ∙ or_else (is_eq (slice_cmp nat_cmp text other)) (has_text before other)
      ∙ ap (λ b. b || has_text before other) (is_eq-slice_cmp text other);
}
  where
    or_else : (a b : Bool) → (if a then true else b) ≡ (a || b)
    or_else true b = refl
    or_else false b = refl
