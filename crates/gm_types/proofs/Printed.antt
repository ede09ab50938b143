-- Texts that are printed piece by piece.
use Rattle.std.proofs.Common.{◌≡◌, ◌<◌, ◌+◌, ℕ, zero, suc, true, false, ◌==◌, List, [], ◌∷◌, ◌++◌}
use Rattle.std.proofs.Common.{map, length, take, get_or, Option, refl, sym, ◌∙◌, ap, arith}
use Rattle.std.proofs.Common.{append_assoc, add-one, add-zero}
use Rattle.std.proofs.Math.Seq.{take-suc}
use Rattle.std.proofs.lemmas.Bool.{eqb-true, false≢true}
use Rattle.std.proofs.lemmas.List.{append-nil, map-append}
use Rattle.gm_types.specs.declared.attribute.Attribute.{Attribute}
use Rattle.gm_types.specs.declared.attribute.AttributeOption.{AttributeOption}
use Rattle.gm_types.specs.declared.datum.Datum.{Datum}
use Rattle.gm_types.specs.Specification.{Specification}
use Rattle.gm_types.specs.Spelling.{pair_text, options_text, starred_text, datum_text}
use Rattle.gm_types.specs.Spelling.{written_attribute, written_datum, data_part, is_place, plainly}
use Rattle.gm_types.specs.Spelling.{canonical_attributes, needs_quotes, canonical_datum}
use Rattle.gm_types.specs.Spelling.{canonical_text, comma_before, separated}
use Rattle.gm_types.proofs.Canonical.{separated_joined}

-- one more element of a list is printed
pub one_more : {A : Type 0} (text_of : List A → List ℕ) (xs : List A) (i : ℕ) (x : A)
    (start so_far now piece : List ℕ) → i < length xs
    → x ≡ get_or xs i x → text_of (take i xs ++ x ∷ []) ≡ text_of (take i xs) ++ piece
    → so_far ≡ start ++ text_of (take i xs)
    → now ≡ so_far ++ piece → now ≡ start ++ text_of (take (i + 1) xs)
one_more text_of xs i x start so_far now piece h is step before after =
    after ∙ ap (λ t. t ++ piece) before ∙ append_assoc start (text_of (take i xs)) piece
    ∙ ap (λ t. start ++ t)
    (sym step ∙ ap (λ y. text_of (take i xs ++ y ∷ [])) is ∙ ap text_of (sym (take-suc xs i x h)))
    ∙ ap (λ n. start ++ text_of (take n xs)) (sym (add-one i))

pub options_push : (options : List AttributeOption) (o : AttributeOption)
    → options_text (options ++ o ∷ []) ≡ options_text options ++ (58 ∷ pair_text o)
options_push [] o = append-nil (58 ∷ pair_text o)
options_push (p ∷ options) o =
    ap (λ t. (58 ∷ pair_text p) ++ t) (options_push options o)
    ∙ sym (append_assoc (58 ∷ pair_text p) (options_text options) (58 ∷ pair_text o))

separated_push : (n : ℕ) (texts : List (List ℕ)) (text : List ℕ)
    → separated n (texts ++ text ∷ [])
    ≡ separated n texts ++ (comma_before (n + length texts) ++ text)
separated_push n [] text =
    ap (λ t. comma_before n ++ t) (append-nil text)
    ∙ ap (λ m. comma_before m ++ text) (sym (add-zero n))
separated_push n (t ∷ texts) text =
    let rest = separated (suc n) texts in
    let tail = comma_before (suc n + length texts) ++ text in
    ap (λ r. comma_before n ++ (t ++ r)) (separated_push (suc n) texts text)
    ∙ ap (λ r. comma_before n ++ r) (sym (append_assoc t rest tail))
    ∙ sym (append_assoc (comma_before n) (t ++ rest) tail)
    ∙ ap (λ m. (comma_before n ++ (t ++ rest)) ++ (comma_before m ++ text))
    (let e : suc n + length texts ≡ n + suc (length texts) = omega arith in e)

canonical_push : (g : Option ℕ) (p : ℕ) (xs : List Attribute) (x : Attribute)
    → canonical_attributes g p (xs ++ x ∷ [])
    ≡ canonical_attributes g p xs ++ plainly (is_place g (p + length xs)) x ∷ []
canonical_push g p [] x = ap (λ m. plainly (is_place g m) x ∷ []) (sym (add-zero p))
canonical_push g p (y ∷ xs) x =
    ap (λ l. plainly (is_place g p) y ∷ l) (canonical_push g (p + 1) xs x)
    ∙ ap (λ m. plainly (is_place g p) y
    ∷ (canonical_attributes g (p + 1) xs ++ plainly (is_place g m) x ∷ []))
    (let e : p + 1 + length xs ≡ p + suc (length xs) = omega arith in e)

canonical_length : (g : Option ℕ) (p : ℕ) (xs : List Attribute)
    → length (map written_attribute (canonical_attributes g p xs)) ≡ length xs
canonical_length g p [] = refl
canonical_length g p (x ∷ xs) = ap suc (canonical_length g (p + 1) xs)

abbrev pub attributes_text : Option ℕ → List Attribute → List ℕ
attributes_text g xs = separated 0 (map written_attribute (canonical_attributes g 0 xs))

attributes_push : (g : Option ℕ) (xs : List Attribute) (x : Attribute)
    → attributes_text g (xs ++ x ∷ [])
    ≡ attributes_text g xs
    ++ (comma_before (length xs) ++ starred_text (is_place g (length xs)) x)
attributes_push g xs x =
    let texts = map written_attribute (canonical_attributes g 0 xs) in
    ap (λ l. separated 0 (map written_attribute l)) (canonical_push g 0 xs x)
    ∙ ap (separated 0)
    (map-append written_attribute (canonical_attributes g 0 xs)
    (plainly (is_place g (0 + length xs)) x ∷ []))
    ∙ separated_push 0 texts (starred_text (is_place g (0 + length xs)) x ++ [])
    ∙ ap (λ t. separated 0 texts ++ (comma_before (0 + length texts) ++ t))
    (append-nil (starred_text (is_place g (0 + length xs)) x))
    ∙ ap (λ m. separated 0 texts ++ (comma_before m ++ starred_text (is_place g (0 + length xs)) x))
    (let e : 0 + length texts ≡ length texts = omega arith in e ∙ canonical_length g 0 xs)
    ∙ ap (λ m. separated 0 texts ++ (comma_before (length xs) ++ starred_text (is_place g m) x))
    (let e : 0 + length xs ≡ length xs = omega arith in e)

taken : {A : Type 0} (xs : List A) (i : ℕ) → i < length xs → length (take i xs) ≡ i
taken [] i h = absurd (omega arith)
taken (x ∷ xs) zero h = refl
taken (x ∷ xs) (suc i) h = ap suc (taken xs i (omega arith))

pub attribute_printed : (g : Option ℕ) (xs : List Attribute) (i : ℕ) (x : Attribute) → i < length xs
    → attributes_text g (take i xs ++ x ∷ [])
    ≡ attributes_text g (take i xs) ++ (comma_before i ++ starred_text (is_place g i) x)
attribute_printed g xs i x h =
    attributes_push g (take i xs) x
    ∙ ap (λ n. attributes_text g (take i xs) ++ (comma_before n ++ starred_text (is_place g n) x))
    (taken xs i h)

abbrev pub data_text : List Datum → List ℕ
data_text xs = separated 0 (map written_datum (map canonical_datum xs))

datum_length : (xs : List Datum) → length (map written_datum (map canonical_datum xs)) ≡ length xs
datum_length [] = refl
datum_length (x ∷ xs) = ap suc (datum_length xs)

pub datum_printed : (xs : List Datum) (i : ℕ) (x : Datum) → i < length xs
    → data_text (take i xs ++ x ∷ [])
    ≡ data_text (take i xs) ++ (comma_before i ++ datum_text (needs_quotes x.value) x)
datum_printed xs i x h =
    let front = take i xs in
    let texts = map written_datum (map canonical_datum front) in
    ap (λ l. separated 0 (map written_datum l)) (map-append canonical_datum front (x ∷ []))
    ∙ ap (separated 0)
    (map-append written_datum (map canonical_datum front) (canonical_datum x ∷ []))
    ∙ separated_push 0 texts (datum_text (needs_quotes x.value) x ++ [])
    ∙ ap (λ t. separated 0 texts ++ (comma_before (0 + length texts) ++ t))
    (append-nil (datum_text (needs_quotes x.value) x))
    ∙ ap (λ m. separated 0 texts ++ (comma_before m ++ datum_text (needs_quotes x.value) x))
    (let e : 0 + length texts ≡ length texts = omega arith in e ∙ datum_length front ∙ taken xs i h)

-- the whole
pub data_printed : (start mark now : List ℕ) (xs : List Datum) → false ≡ (length xs == 0)
    → mark ≡ start ++ 59 ∷ [] → now ≡ mark ++ data_text xs
    → now ≡ start ++ data_part (map written_datum (map canonical_datum xs))
data_printed start mark now [] h m e = absurd (false≢true h)
data_printed start mark now (x ∷ xs) h m e =
    e ∙ ap (λ t. t ++ data_text (x ∷ xs)) m ∙ append_assoc start (59 ∷ []) (data_text (x ∷ xs))
    ∙ ap (λ t. start ++ 59 ∷ t)
    (separated_joined (map written_datum (map canonical_datum (x ∷ xs))))

pub nothing_printed : (start : List ℕ) (xs : List Datum) → true ≡ (length xs == 0)
    → start ≡ start ++ data_part (map written_datum (map canonical_datum xs))
nothing_printed start [] e = sym (append-nil start)
nothing_printed start (x ∷ xs) e = absurd (omega (arith, eqb-true (suc (length xs)) 0 (sym e)))

pub all_printed : (t : Specification) (start middle now : List ℕ)
    → middle ≡ start ++ attributes_text t.geometry t.attributes
    → now ≡ middle ++ data_part (map written_datum (map canonical_datum t.data))
    → now ≡ start ++ canonical_text t
unfolding canonical_text
all_printed t start middle now m e =
    e ∙ ap (λ l. l ++ data_part (map written_datum (map canonical_datum t.data))) m
    ∙ append_assoc start (attributes_text t.geometry t.attributes)
    (data_part (map written_datum (map canonical_datum t.data)))
    ∙ ap (λ a. start ++ (a ++ data_part (map written_datum (map canonical_datum t.data))))
    (separated_joined (map written_attribute (canonical_attributes t.geometry 0 t.attributes)))
