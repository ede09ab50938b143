-- The index of a name is the one that the name means, where that is enabled.
use Rattle.std.proofs.Common.{◌≡◌, ◌<◌, ◌≤◌, ◌+◌, ℕ, zero, suc, Bool, true, false, ◌&&◌, ◌||◌, cond}
use Rattle.std.proofs.Common.{List, [], ◌∷◌, ◌++◌, map, length, take, drop, Option, Some, None}
use Rattle.std.proofs.Common.{refl, sym, ◌∙◌, ap, inl, inr, arith, add-zero}
use Rattle.std.specs.Prelude.{not, codes, if◌then◌else◌, find, filter, position, slice_get}
use Rattle.std.specs.Prelude.{option_map}
use Rattle.std.specs.List.{list_any}
use Rattle.std.proofs.Math.Bool.{and-true, and-false}
use Rattle.std.proofs.lemmas.Bool.{and_parts, and_from, or_parts, not-true, false≢true, cases_eq}
use Rattle.gm_base.proofs.Options.{same_some}
use Rattle.gm_types.specs.declared.attribute.Attribute.{Attribute}
use Rattle.gm_types.specs.declared.index.IndexKind.{IndexKind}
use Rattle.gm_types.specs.declared.index.IndexKind.TheVariants.{Id, Z2, Z3, Xz2, Xz3, Attr}
use Rattle.gm_types.specs.Index.{has_index, attribute_indexes, all_indexes, enabled_indexes}
use Rattle.gm_types.specs.Index.{index_name, attribute_index_name, index_of_name, attribute_meant}
use Rattle.gm_types.specs.Index.{index_meant, index_if, is_indexed_one, lists_word}
use Rattle.gm_types.specs.Specification.{Specification, names_of}
use Rattle.gm_types.specs.Words.{same_text, are_distinct}
use Rattle.std.proofs.lemmas.Option.{slice_get_within}
use Rattle.gm_types.proofs.Cuts.{some_none}
use Rattle.gm_types.proofs.Lists.{position_here, position_later, none_passes}
use Rattle.gm_types.proofs.Noted.{same_list, same_itself, same_sym}

-- an enabled index with the name
abbrev pub is_named : Specification → List ℕ → IndexKind → Bool
is_named t name kind = same_text name (index_name t kind) && has_index t kind

find_filter : (p h : IndexKind → Bool) (xs : List IndexKind)
    → find p (filter h xs) ≡ find (λ x. p x && h x) xs
find_filter p h [] = refl
find_filter p h (x ∷ xs) = go (p x) (h x) (find_filter p h xs) refl refl
  where
    go : (a b : Bool) → find p (filter h xs) ≡ find (λ x. p x && h x) xs → p x ≡ a → h x ≡ b
        → find p (cond (h x) (x ∷ filter h xs) (filter h xs))
        ≡ cond (p x && h x) (Some x) (find (λ x. p x && h x) xs)
    go a true rest ea eb =
        ap (λ b. find p (cond b (x ∷ filter h xs) (filter h xs))) eb
        ∙ ap (λ f. cond (p x) (Some x) f) rest
        ∙ sym (ap (λ b. cond (p x && b) (Some x) (find (λ x. p x && h x) xs)) eb
        ∙ ap (λ b. cond b (Some x) (find (λ x. p x && h x) xs)) (and-true (p x)))
    go a false rest ea eb =
        ap (λ b. find p (cond b (x ∷ filter h xs) (filter h xs))) eb ∙ rest
        ∙ sym (ap (λ b. cond (p x && b) (Some x) (find (λ x. p x && h x) xs)) eb
        ∙ ap (λ b. cond b (Some x) (find (λ x. p x && h x) xs)) (and-false (p x)))

-- no attribute's index has the name
none_named : (t : Specification) (name : List ℕ)
    → ((o : Option Attribute) → same_text name (attribute_index_name o) ≡ false)
    → (from count : ℕ) → find (is_named t name) (attribute_indexes from count) ≡ None
none_named t name other from zero = refl
none_named t name other from (suc count) =
    ap (λ b. cond (b && has_index t (Attr from)) (Some (Attr from))
    (find (is_named t name) (attribute_indexes (from + 1) count)))
    (other (slice_get t.attributes from))
    ∙ none_named t name other (from + 1) count

-- where names stand once each, the attribute's index is found
further : (from : ℕ) (o : Option ℕ)
    → option_map (λ k. Attr (from + k)) (option_map suc o) ≡ option_map (λ k. Attr (from + 1 + k)) o
further from None = refl
further from (Some k) =
    ap (λ n. Some (Attr n)) (let e : from + suc k ≡ from + 1 + k = omega arith in e)

later_other : (name : List ℕ) (first : Attribute) (list : List Attribute) → first.name ≡ name
    → list_any (same_text first.name) (map (λ (a : Attribute). a.name) list) ≡ false
    → list_any (λ (a : Attribute). same_text a.name name) list ≡ false
later_other name first [] e h = refl
later_other name first (a ∷ list) e h =
    let parts = or_parts (same_text first.name a.name)
    (list_any (same_text first.name) (map (λ (b : Attribute). b.name) list)) h in
    ap (λ b. b || list_any (λ (a : Attribute). same_text a.name name) list)
    (same_sym a.name name ∙ ap (λ n. same_text n a.name) (sym e) ∙ parts.0)
    ∙ later_other name first list e parts.1

attribute_found : (t : Specification) (name : List ℕ) (list : List Attribute) (from : ℕ)
    → ((k : ℕ) → slice_get t.attributes (from + k) ≡ slice_get list k)
    → are_distinct (map (λ (a : Attribute). a.name) list) ≡ true
    → find (is_named t (codes "attr:" ++ name)) (attribute_indexes from (length list))
    ≡ index_if t (option_map (λ k. Attr (from + k))
    (position (λ (a : Attribute). same_text a.name name) list))
unfolding are_distinct
attribute_found t name [] from there distinct = refl
attribute_found t name (a ∷ list) from there distinct =
    go (same_text a.name name) refl
    (attribute_found t name list (from + 1)
    (λ k. ap (slice_get t.attributes) (let e : from + 1 + k ≡ from + suc k = omega arith in e)
    ∙ there (suc k)) parts.1)
  where
    parts : (not (list_any (same_text a.name) (map (λ (a : Attribute). a.name) list)) ≡ true)
        × (are_distinct (map (λ (a : Attribute). a.name) list) ≡ true)
    parts = and_parts (not (list_any (same_text a.name) (map (λ (a : Attribute). a.name) list)))
        (are_distinct (map (λ (a : Attribute). a.name) list)) distinct

    named : (b : Bool) → same_text a.name name ≡ b
        → is_named t (codes "attr:" ++ name) (Attr from) ≡ (b && has_index t (Attr from))
    named b e =
        ap (λ o. same_text (codes "attr:" ++ name) (attribute_index_name o)
        && has_index t (Attr from))
        (ap (slice_get t.attributes) (sym (add-zero from)) ∙ there 0)
        ∙ ap (λ c. c && has_index t (Attr from)) (same_sym name a.name ∙ e)

    go : (b : Bool) → same_text a.name name ≡ b
        → find (is_named t (codes "attr:" ++ name)) (attribute_indexes (from + 1) (length list))
        ≡ index_if t (option_map (λ k. Attr (from + 1 + k))
        (position (λ (a : Attribute). same_text a.name name) list))
        → cond (is_named t (codes "attr:" ++ name) (Attr from)) (Some (Attr from))
        (find (is_named t (codes "attr:" ++ name)) (attribute_indexes (from + 1) (length list)))
        ≡ index_if t (option_map (λ k. Attr (from + k))
        (position (λ (a : Attribute). same_text a.name name) (a ∷ list)))
    go true e rest =
        let none = none_passes (λ (a : Attribute). same_text a.name name) list
        (later_other name a list (same_list a.name name e)
        (not-true (list_any (same_text a.name) (map (λ (a : Attribute). a.name) list))
        parts.0)) in
        ap (λ b. cond b (Some (Attr from))
        (find (is_named t (codes "attr:" ++ name))
        (attribute_indexes (from + 1) (length list)))) (named true e)
        ∙ ap (λ f. cond (has_index t (Attr from)) (Some (Attr from)) f)
        (rest ∙ ap (λ o. index_if t (option_map (λ k. Attr (from + 1 + k)) o)) none)
        ∙ ap (λ n. index_if t (Some (Attr n))) (sym (add-zero from))
        ∙ sym (ap (λ o. index_if t (option_map (λ k. Attr (from + k)) o))
        (position_here (λ (a : Attribute). same_text a.name name) a list e))
    go false e rest =
        ap (λ b. cond b (Some (Attr from))
        (find (is_named t (codes "attr:" ++ name))
        (attribute_indexes (from + 1) (length list)))) (named false e)
        ∙ rest ∙ ap (index_if t)
        (sym (further from (position (λ (a : Attribute). same_text a.name name) list)))
        ∙ sym (ap (λ o. index_if t (option_map (λ k. Attr (from + k)) o))
        (position_later (λ (a : Attribute). same_text a.name name) a list e))

z2_other : (o : Option Attribute) → same_text (codes "z2") (attribute_index_name o) ≡ false
z2_other None = refl
z2_other (Some a) = refl

z3_other : (o : Option Attribute) → same_text (codes "z3") (attribute_index_name o) ≡ false
z3_other None = refl
z3_other (Some a) = refl

xz2_other : (o : Option Attribute) → same_text (codes "xz2") (attribute_index_name o) ≡ false
xz2_other None = refl
xz2_other (Some a) = refl

xz3_other : (o : Option Attribute) → same_text (codes "xz3") (attribute_index_name o) ≡ false
xz3_other None = refl
xz3_other (Some a) = refl

front_back : (n : ℕ) (name : List ℕ) → take n name ++ drop n name ≡ name
front_back zero name = refl
front_back (suc n) [] = refl
front_back (suc n) (b ∷ name) = ap (λ l. b ∷ l) (front_back n name)

from_zero : (o : Option ℕ) → option_map (λ k. Attr (0 + k)) o ≡ option_map (λ n. Attr n) o
from_zero None = refl
from_zero (Some k) = ap (λ n. Some (Attr n)) (let z : 0 + k ≡ k = omega arith in z)

attribute_named : (t : Specification) (name : List ℕ) → are_distinct (names_of t) ≡ true
    → find (is_named t name) (attribute_indexes 0 (length t.attributes))
    ≡ index_if t (attribute_meant t.attributes name)
attribute_named t name distinct = go (same_text (take 5 name) (codes "attr:")) refl
  where
    not_so : same_text (take 5 name) (codes "attr:") ≡ false → (o : Option Attribute) (b : Bool)
        → same_text name (attribute_index_name o) ≡ b → b ≡ false
    not_so e None true h =
        absurd (false≢true
        (sym e ∙ ap (λ n. same_text (take 5 n) (codes "attr:"))
        (same_list name (attribute_index_name None) h)))
    not_so e (Some a) true h =
        absurd (false≢true
        (sym e ∙ ap (λ n. same_text (take 5 n) (codes "attr:"))
        (same_list name (attribute_index_name (Some a)) h)))
    not_so e o false h = refl

    go : (b : Bool) → same_text (take 5 name) (codes "attr:") ≡ b
        → find (is_named t name) (attribute_indexes 0 (length t.attributes))
        ≡ index_if t (attribute_meant t.attributes name)
    go true e =
        let is : codes "attr:" ++ drop 5 name ≡ name =
        ap (λ front. front ++ drop 5 name) (sym (same_list (take 5 name) (codes "attr:") e))
        ∙ front_back 5 name in
        ap (λ n. find (is_named t n) (attribute_indexes 0 (length t.attributes))) (sym is)
        ∙ attribute_found t (drop 5 name) t.attributes 0
        (λ k. ap (slice_get t.attributes) (let z : 0 + k ≡ k = omega arith in z)) distinct
        ∙ ap (index_if t)
        (from_zero (position (λ (a : Attribute). same_text a.name (drop 5 name)) t.attributes))
        ∙ sym (ap (λ b. index_if t
        (if b then option_map (λ n. Attr n)
        (position (λ (a : Attribute). same_text a.name (drop 5 name)) t.attributes)
        else None)) e)
    go false e =
        none_named t name (λ o. not_so e o (same_text name (attribute_index_name o)) refl) 0
        (length t.attributes)
        ∙ sym (ap (λ b. index_if t
        (if b then option_map (λ n. Attr n)
        (position (λ (a : Attribute). same_text a.name (drop 5 name)) t.attributes)
        else None)) e)

abbrev pub first_named : Specification → Bool → Bool → Bool → Bool → Bool → Option IndexKind
    → Option IndexKind
first_named t a b c d e rest =
    cond (a && true) (Some Id)
    (cond (b && has_index t Z2) (Some Z2)
    (cond (c && has_index t Z3) (Some Z3)
    (cond (d && has_index t Xz2) (Some Xz2)
    (cond (e && has_index t Xz3) (Some Xz3) rest))))

abbrev pub first_meant : Bool → Bool → Bool → Bool → Bool → Option IndexKind → Option IndexKind
first_meant a b c d e rest =
    cond a (Some Id)
    (cond b (Some Z2) (cond c (Some Z3) (cond d (Some Xz2) (cond e (Some Xz3) rest))))

-- a name that is that of one of the five
at_word : (t : Specification) (name word : List ℕ) → same_text name word ≡ true
    → find (is_named t word) (all_indexes t) ≡ index_if t (index_meant t.attributes word)
    → find (is_named t name) (all_indexes t) ≡ index_if t (index_meant t.attributes name)
at_word t name word e h =
    let same = same_list name word e in
    ap (λ n. find (is_named t n) (all_indexes t)) same ∙ h
    ∙ sym (ap (λ n. index_if t (index_meant t.attributes n)) same)

at_z2 : (t : Specification) → find (is_named t (codes "z2")) (all_indexes t) ≡ index_if t (Some Z2)
at_z2 t = ap (λ f. cond (has_index t Z2) (Some Z2) f)
    (none_named t (codes "z2") z2_other 0 (length t.attributes))

at_z3 : (t : Specification) → find (is_named t (codes "z3")) (all_indexes t) ≡ index_if t (Some Z3)
at_z3 t = ap (λ f. cond (has_index t Z3) (Some Z3) f)
    (none_named t (codes "z3") z3_other 0 (length t.attributes))

at_xz2 : (t : Specification)
    → find (is_named t (codes "xz2")) (all_indexes t) ≡ index_if t (Some Xz2)
at_xz2 t = ap (λ f. cond (has_index t Xz2) (Some Xz2) f)
    (none_named t (codes "xz2") xz2_other 0 (length t.attributes))

at_xz3 : (t : Specification)
    → find (is_named t (codes "xz3")) (all_indexes t) ≡ index_if t (Some Xz3)
at_xz3 t = ap (λ f. cond (has_index t Xz3) (Some Xz3) f)
    (none_named t (codes "xz3") xz3_other 0 (length t.attributes))

named_is_meant : (t : Specification) (name : List ℕ) → are_distinct (names_of t) ≡ true
    → find (is_named t name) (all_indexes t) ≡ index_if t (index_meant t.attributes name)
named_is_meant t name distinct =
    go (same_text name (codes "id")) (same_text name (codes "z2")) (same_text name (codes "z3"))
    (same_text name (codes "xz2"))
    (same_text name (codes "xz3")) refl refl refl refl refl
  where
    go : (a b c d e : Bool) → same_text name (codes "id") ≡ a → same_text name (codes "z2") ≡ b
        → same_text name (codes "z3") ≡ c
        → same_text name (codes "xz2") ≡ d → same_text name (codes "xz3") ≡ e
        → find (is_named t name) (all_indexes t) ≡ index_if t (index_meant t.attributes name)
    go true b c d e ea eb ec ed ee = at_word t name (codes "id") ea refl
    go false true c d e ea eb ec ed ee = at_word t name (codes "z2") eb (at_z2 t)
    go false false true d e ea eb ec ed ee = at_word t name (codes "z3") ec (at_z3 t)
    go false false false true e ea eb ec ed ee = at_word t name (codes "xz2") ed (at_xz2 t)
    go false false false false true ea eb ec ed ee = at_word t name (codes "xz3") ee (at_xz3 t)
    go false false false false false ea eb ec ed ee =
        let rest = find (is_named t name) (attribute_indexes 0 (length t.attributes)) in
        let meant = attribute_meant t.attributes name in
        ap (λ x. first_named t x (same_text name (codes "z2")) (same_text name (codes "z3"))
        (same_text name (codes "xz2")) (same_text name (codes "xz3")) rest) ea
        ∙ ap (λ x. first_named t false x (same_text name (codes "z3"))
        (same_text name (codes "xz2")) (same_text name (codes "xz3")) rest) eb
        ∙ ap (λ x. first_named t false false x (same_text name (codes "xz2"))
        (same_text name (codes "xz3")) rest) ec
        ∙ ap (λ x. first_named t false false false x (same_text name (codes "xz3")) rest) ed
        ∙ ap (λ x. first_named t false false false false x rest) ee
        ∙ attribute_named t name distinct
        ∙ sym (ap (λ x. index_if t
        (first_meant x (same_text name (codes "z2")) (same_text name (codes "z3"))
        (same_text name (codes "xz2")) (same_text name (codes "xz3")) meant)) ea
        ∙ ap (λ x. index_if t
        (first_meant false x (same_text name (codes "z3")) (same_text name (codes "xz2"))
        (same_text name (codes "xz3")) meant)) eb
        ∙ ap (λ x. index_if t
        (first_meant false false x (same_text name (codes "xz2"))
        (same_text name (codes "xz3")) meant)) ec
        ∙ ap (λ x. index_if t
        (first_meant false false false x (same_text name (codes "xz3")) meant)) ed
        ∙ ap (λ x. index_if t (first_meant false false false false x meant)) ee)

pub index_is_meant : (t : Specification) (name : List ℕ) → are_distinct (names_of t) ≡ true
    → index_of_name t name ≡ index_if t (index_meant t.attributes name)
unfolding index_of_name enabled_indexes
index_is_meant t name distinct =
    find_filter (λ kind. same_text name (index_name t kind)) (has_index t) (all_indexes t)
    ∙ named_is_meant t name distinct

-- what is found passes, and where nothing is found nothing passes
found_passes : (q : IndexKind → Bool) (xs : List IndexKind) (k : IndexKind)
    → find q xs ≡ Some k → q k ≡ true
found_passes q [] k e = absurd (some_none k (sym e))
found_passes q (x ∷ xs) k e = go (q x) refl e (found_passes q xs k)
  where
    go : (b : Bool) → q x ≡ b → cond b (Some x) (find q xs) ≡ Some k
        → (find q xs ≡ Some k → q k ≡ true) → q k ≡ true
    go true t h rest = ap q (sym (same_some x k h)) ∙ t
    go false t h rest = rest h

head_fails : (q : IndexKind → Bool) (x : IndexKind) (xs : List IndexKind) → find q (x ∷ xs) ≡ None
    → (q x ≡ false) × (find q xs ≡ None)
head_fails q x xs e = go (q x) refl e
  where
    go : (b : Bool) → q x ≡ b → cond b (Some x) (find q xs) ≡ None
        → (q x ≡ false) × (find q xs ≡ None)
    go true t h = absurd (some_none x h)
    go false t h = (t, h)

attributes_fail : (q : IndexKind → Bool) (from count n : ℕ)
    → find q (attribute_indexes from count) ≡ None → from ≤ n → n < from + count
    → q (Attr n) ≡ false
attributes_fail q from zero n e low high = absurd (omega (arith, low, high))
attributes_fail q from (suc count) n e low high =
    let fails = head_fails q (Attr from) (attribute_indexes (from + 1) count) e in
    elim (cases_eq n from) [
      | inl same ↦ ap (λ m. q (Attr m)) same ∙ fails.0
      | inr other ↦ attributes_fail q (from + 1) count n fails.1 (omega (arith, low, other))
          (omega (arith, high))
    ]

indexed_within : (t : Specification) (n : ℕ) → has_index t (Attr n) ≡ true → n < length t.attributes
indexed_within t n h =
    go (slice_get t.attributes n) refl
    (and_parts (is_indexed_one (slice_get t.attributes n)) (lists_word t (codes "attr")) h).0
  where
    go : (o : Option Attribute) → slice_get t.attributes n ≡ o → is_indexed_one o ≡ true
        → n < length t.attributes
    go None e i = absurd (false≢true i)
    go (Some a) e i = slice_get_within t.attributes n a e

-- no index of the type fails the test and is enabled
none_enabled : (t : Specification) (q : IndexKind → Bool) → find q (all_indexes t) ≡ None
    → (kind : IndexKind) → has_index t kind ≡ true → q kind ≡ false
none_enabled t q e kind h = go kind h
  where
    one : (q Id ≡ false)
        × (find q (Z2 ∷ Z3 ∷ Xz2 ∷ Xz3 ∷ attribute_indexes 0 (length t.attributes)) ≡ None)
    one = head_fails q Id (Z2 ∷ Z3 ∷ Xz2 ∷ Xz3 ∷ attribute_indexes 0 (length t.attributes)) e

    two : (q Z2 ≡ false)
        × (find q (Z3 ∷ Xz2 ∷ Xz3 ∷ attribute_indexes 0 (length t.attributes)) ≡ None)
    two = head_fails q Z2 (Z3 ∷ Xz2 ∷ Xz3 ∷ attribute_indexes 0 (length t.attributes)) one.1

    three : (q Z3 ≡ false) × (find q (Xz2 ∷ Xz3 ∷ attribute_indexes 0 (length t.attributes)) ≡ None)
    three = head_fails q Z3 (Xz2 ∷ Xz3 ∷ attribute_indexes 0 (length t.attributes)) two.1

    four : (q Xz2 ≡ false) × (find q (Xz3 ∷ attribute_indexes 0 (length t.attributes)) ≡ None)
    four = head_fails q Xz2 (Xz3 ∷ attribute_indexes 0 (length t.attributes)) three.1

    five : (q Xz3 ≡ false) × (find q (attribute_indexes 0 (length t.attributes)) ≡ None)
    five = head_fails q Xz3 (attribute_indexes 0 (length t.attributes)) four.1

    go : (k : IndexKind) → has_index t k ≡ true → q k ≡ false
    go Id h = one.0
    go Z2 h = two.0
    go Z3 h = three.0
    go Xz2 h = four.0
    go Xz3 h = five.0
    go (Attr n) h =
        attributes_fail q 0 (length t.attributes) n five.1 (omega arith)
        (let w = indexed_within t n h in omega (arith, w))

pub index_named_so : (t : Specification) (name : List ℕ) (kind : IndexKind)
    → index_of_name t name ≡ Some kind
    → (has_index t kind ≡ true) × (index_name t kind ≡ name)
unfolding index_of_name enabled_indexes
index_named_so t name kind e =
    let passes = found_passes (is_named t name) (all_indexes t) kind
    (sym (find_filter (λ k. same_text name (index_name t k)) (has_index t) (all_indexes t)) ∙ e) in
    let parts = and_parts (same_text name (index_name t kind)) (has_index t kind) passes in
    (parts.1, sym (same_list name (index_name t kind) parts.0))

pub no_index_named_so : (t : Specification) (name : List ℕ) → index_of_name t name ≡ None
    → (kind : IndexKind) → has_index t kind ≡ true
    → index_name t kind ≡ name → ⊥
unfolding index_of_name enabled_indexes
no_index_named_so t name e kind h named =
    let fails = none_enabled t (is_named t name)
    (sym (find_filter (λ k. same_text name (index_name t k)) (has_index t) (all_indexes t)) ∙ e)
    kind h in
    false≢true (sym fails ∙ and_from (same_text name (index_name t kind)) (has_index t kind)
    (ap (same_text name) named ∙ same_itself name) h)
