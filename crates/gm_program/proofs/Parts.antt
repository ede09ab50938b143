-- Parts, one after the other.
use Rattle.std.proofs.Common.{◌≡◌, ◌<◌, ◌+◌, ℕ, zero, suc, List, [], ◌∷◌, ◌++◌, map, length, take}
use Rattle.std.proofs.Common.{drop, sym, ap, subst, ◌∙◌, arith, append_assoc}
use Rattle.std.specs.Prelude.{get_or, All}
use Rattle.std.specs.List.{AllByRecursion}
use Rattle.std.proofs.lemmas.List.{take_more}
use Rattle.std.proofs.lemmas.List.Elements.{recursion_from_All}
use Rattle.gm_table.specs.Sorted.{Rows}
use Rattle.gm_types.specs.Specification.{Specification}
use Rattle.gm_filter.specs.Tree.{tree}
use Rattle.gm_strategy.specs.declared.part.Part.{Part}
use Rattle.gm_strategy.specs.Choice.{Chosen, IsServed, chosen_of}
use Rattle.gm_program.specs.Found.{tests_of}
use Rattle.gm_program.specs.Question.{rows_read, rows_examined, part_lines, plan_lines}
use Rattle.gm_program.proofs.Planned.{map-append, examined_more}

pub taken : (parts : List Part) (i : ℕ) (part : Part) → i < length parts
    → part ≡ get_or parts i part → take (i + 1) parts ≡ take i parts ++ part ∷ []
taken parts i part within is =
    take_more parts i part within ∙ ap (λ (p : Part). take i parts ++ p ∷ []) (sym is)

same_drop : (parts : List Part) (part : Part) (n m : ℕ) → n ≡ m
    → part ∷ drop n parts ≡ part ∷ drop m parts
same_drop parts part n m same = ap (λ (k : ℕ). part ∷ drop k parts) same

left : (parts : List Part) (i : ℕ) (part : Part) → i < length parts → part ≡ get_or parts i part
    → drop i parts ≡ part ∷ drop (i + 1) parts
left [] i part within is = absurd (omega (arith, within))
left (p ∷ parts) zero part within is = ap (λ (q : Part). q ∷ parts) (sym is)
left (p ∷ parts) (suc i) part within is =
    left parts i part (omega (arith, within)) is
    ∙ same_drop (p ∷ parts) part (suc (i + 1)) (suc i + 1) (omega arith)

pub tests_more : (parts : List Part) (i : ℕ) (part : Part) → i < length parts
    → part ≡ get_or parts i part
    → tests_of (map chosen_of (take (i + 1) parts))
    ≡ tests_of (map chosen_of (take i parts)) ++ tree part.filter ∷ []
tests_more parts i part within is =
    ap (λ ps. tests_of (map chosen_of ps)) (taken parts i part within is)
    ∙ ap tests_of (map-append chosen_of (take i parts) (part ∷ []))
    ∙ map-append (λ (p : Chosen). p.wanted) (map chosen_of (take i parts)) (chosen_of part ∷ [])

pub examined_next : (t : Specification) (target : ℕ) (rows : Rows) (parts : List Part) (i : ℕ)
    (part : Part) → i < length parts → part ≡ get_or parts i part
    → rows_examined t target rows (map chosen_of (take (i + 1) parts))
    ≡ rows_examined t target rows (map chosen_of (take i parts))
    + rows_read t target rows (chosen_of part)
examined_next t target rows parts i part within is =
    ap (λ ps. rows_examined t target rows (map chosen_of ps)) (taken parts i part within is)
    ∙ ap (rows_examined t target rows) (map-append chosen_of (take i parts) (part ∷ []))
    ∙ examined_more t target rows (map chosen_of (take i parts)) (chosen_of part)

served_in : (t : Specification) (parts : List Part) (i : ℕ) (part : Part)
    → AllByRecursion (IsServed t) (map chosen_of parts) → i < length parts
    → part ≡ get_or parts i part → IsServed t (chosen_of part)
served_in t [] i part all within is = absurd (omega (arith, within))
served_in t (p ∷ parts) zero part all within is =
    subst (λ (q : Part). IsServed t (chosen_of q)) (sym is) all.0
served_in t (p ∷ parts) (suc i) part all within is =
    served_in t parts i part all.1 (omega (arith, within)) is

pub served_at : (t : Specification) (parts : List Part) (i : ℕ) (part : Part)
    → All (IsServed t) (map chosen_of parts) → i < length parts → part ≡ get_or parts i part
    → IsServed t (chosen_of part)
served_at t parts i part all within is =
    served_in t parts i part (recursion_from_All (IsServed t) (map chosen_of parts) all) within is

pub lines_next : (t : Specification) (target : ℕ) (parts : List Part) (i place : ℕ) (part : Part)
    (lines more all : List (List ℕ)) → i < length parts → part ≡ get_or parts i part → place ≡ i + 1
    → more ≡ lines ++ part_lines t target place (chosen_of part)
    → lines ++ plan_lines t target (i + 1) (map chosen_of (drop i parts)) ≡ all
    → more ++ plan_lines t target (i + 1 + 1) (map chosen_of (drop (i + 1) parts)) ≡ all
lines_next t target parts i place part lines more all within is place_is more_is before =
    ap (λ ls. ls ++ plan_lines t target (i + 1 + 1) (map chosen_of (drop (i + 1) parts)))
    (more_is ∙ ap (λ (k : ℕ). lines ++ part_lines t target k (chosen_of part)) place_is)
    ∙ append_assoc lines (part_lines t target (i + 1) (chosen_of part))
    (plan_lines t target (i + 1 + 1) (map chosen_of (drop (i + 1) parts)))
    ∙ ap (λ ps. lines ++ plan_lines t target (i + 1) (map chosen_of ps))
    (sym (left parts i part within is))
    ∙ before

-- a part alone
pub alone : (parts : List Part) (part : Part) → length parts ≡ 1 → part ≡ get_or parts 0 part
    → parts ≡ part ∷ []
alone [] part one is = absurd (omega (arith, one))
alone (p ∷ []) part one is = ap (λ (q : Part). q ∷ []) (sym is)
alone (p ∷ q ∷ parts) part one is = absurd (omega (arith, one))

pub examined_alone : (t : Specification) (target : ℕ) (rows : Rows) (part : Part)
    → rows_read t target rows (chosen_of part)
    ≡ rows_examined t target rows (map chosen_of (part ∷ []))
examined_alone t target rows part = omega arith
