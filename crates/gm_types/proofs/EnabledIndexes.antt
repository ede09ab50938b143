-- The list of enabled indexes, made piece by piece.
use Rattle.std.proofs.Common.{◌≡◌, ◌+◌, ℕ, zero, suc, Bool, List, [], ◌∷◌, ◌++◌, length, sym, ◌∙◌}
use Rattle.std.proofs.Common.{ap, arith, append_assoc, add-one, add-zero}
use Rattle.std.specs.Prelude.{filter}
use Rattle.std.proofs.lemmas.List.Elements.{filter-append}
use Rattle.gm_types.specs.declared.index.IndexKind.{IndexKind}
use Rattle.gm_types.specs.declared.index.IndexKind.TheVariants.{Id, Z2, Z3, Xz2, Xz3, Attr}
use Rattle.gm_types.specs.Index.{has_index, attribute_indexes, enabled_indexes}
use Rattle.gm_types.specs.Specification.{Specification}

one_further : (from count : ℕ)
    → attribute_indexes from (suc count) ≡ attribute_indexes from count ++ Attr (from + count) ∷ []
one_further from zero = ap (λ n. Attr n ∷ []) (sym (add-zero from))
one_further from (suc count) =
    ap (λ l. Attr from ∷ l) (one_further (from + 1) count)
    ∙ ap (λ n. Attr from ∷ (attribute_indexes (from + 1) count ++ Attr n ∷ []))
    (let e : from + 1 + count ≡ from + suc count = omega arith in e)

pub next_attribute : (h : IndexKind → Bool) (start so_far now : List IndexKind) (count : ℕ)
    → so_far ≡ start ++ filter h (attribute_indexes 0 count)
    → now ≡ so_far ++ filter h (Attr count ∷ [])
    → now ≡ start ++ filter h (attribute_indexes 0 (count + 1))
next_attribute h start so_far now count e added =
    added ∙ ap (λ l. l ++ filter h (Attr count ∷ [])) e
    ∙ append_assoc start (filter h (attribute_indexes 0 count)) (filter h (Attr count ∷ []))
    ∙ ap (λ l. start ++ l)
    (sym (filter-append h (attribute_indexes 0 count) (Attr count ∷ []))
    ∙ ap (λ n. filter h (attribute_indexes 0 count ++ Attr n ∷ []))
    (let z : count ≡ 0 + count = omega arith in z)
    ∙ ap (filter h) (sym (one_further 0 count)))
    ∙ ap (λ n. start ++ filter h (attribute_indexes 0 n)) (sym (add-one count))

join_two : (h : IndexKind → Bool) (before now front back : List IndexKind) → before ≡ filter h front
    → now ≡ before ++ filter h back → now ≡ filter h (front ++ back)
join_two h before now front back e added =
    added ∙ ap (λ l. l ++ filter h back) e ∙ sym (filter-append h front back)

pub all_enabled : (t : Specification) (none a b c d e f : List IndexKind) → none ≡ []
    → a ≡ none ++ filter (has_index t) (Id ∷ [])
    → b ≡ a ++ filter (has_index t) (Z2 ∷ []) → c ≡ b ++ filter (has_index t) (Z3 ∷ [])
    → d ≡ c ++ filter (has_index t) (Xz2 ∷ [])
    → e ≡ d ++ filter (has_index t) (Xz3 ∷ [])
    → f ≡ e ++ filter (has_index t) (attribute_indexes 0 (length t.attributes))
    → f ≡ enabled_indexes t
unfolding enabled_indexes
all_enabled t none a b c d e f en ea eb ec ed ee ef =
    let h = has_index t in
    let a1 : a ≡ filter h (Id ∷ []) = ea ∙ ap (λ l. l ++ filter h (Id ∷ [])) en in
    let b1 : b ≡ filter h (Id ∷ Z2 ∷ []) = join_two h a b (Id ∷ []) (Z2 ∷ []) a1 eb in
    let c1 : c ≡ filter h (Id ∷ Z2 ∷ Z3 ∷ []) = join_two h b c (Id ∷ Z2 ∷ []) (Z3 ∷ []) b1 ec in
    let d1 : d ≡ filter h (Id ∷ Z2 ∷ Z3 ∷ Xz2 ∷ []) =
    join_two h c d (Id ∷ Z2 ∷ Z3 ∷ []) (Xz2 ∷ []) c1 ed in
    let e1 : e ≡ filter h (Id ∷ Z2 ∷ Z3 ∷ Xz2 ∷ Xz3 ∷ []) =
    join_two h d e (Id ∷ Z2 ∷ Z3 ∷ Xz2 ∷ []) (Xz3 ∷ []) d1 ee in
    join_two h e f (Id ∷ Z2 ∷ Z3 ∷ Xz2 ∷ Xz3 ∷ []) (attribute_indexes 0 (length t.attributes)) e1 ef
