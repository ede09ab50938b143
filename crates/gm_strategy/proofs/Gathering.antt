-- The branches that are gathered: the first nine.
use Rattle.std.proofs.Common.{◌≡◌, length-take, ℕ, zero, suc, ◌+◌, ◌≤◌, ◌<◌, List, [], ◌∷◌, ◌++◌}
use Rattle.std.proofs.Common.{length, map, take, drop, get_or, refl, sym, ap, ◌∙◌, arith, subst}
use Rattle.std.proofs.Common.{append_assoc, drop-cons, add-one}
use Rattle.std.proofs.lemmas.List.{take-append-le, take_all, length-map}
use Rattle.std.specs.Borrow.{Bor}
use Rattle.gm_filter.specs.declared.filter.Filter.{Filter}
use Rattle.gm_filter.specs.Tree.{Tree, tree, trees_of}
use Rattle.gm_strategy.specs.Branches.{branches_of, branches_in, trees_in}

take_again : {X : Type 0} (n : ℕ) (xs ys : List X) → take n (take n xs ++ ys) ≡ take n (xs ++ ys)
take_again zero xs ys = refl
take_again (suc n) [] ys = refl
take_again (suc n) (x ∷ xs) ys = ap (λ rest. x ∷ rest) (take_again n xs ys)

pub enough : {X : Type 0} (xs ys : List X) → 9 ≤ length xs → length xs ≤ 9 → xs ≡ take 9 (xs ++ ys)
enough xs ys least most = sym (take-append-le 9 xs ys least ∙ take_all 9 xs most)

-- of what is taken there are at most nine
pub short : (now : List (Bor Filter)) (xs : List Tree) → trees_in now ≡ take 9 xs → length now ≤ 9
short now xs is =
    let long = length-map now (λ (filter : Bor Filter). tree filter.now) in
    let cut = length-take 9 xs in
    let same = ap length is in
    omega (arith, long, cut, same)

-- nine are enough
pub enough_found : (now : List (Bor Filter)) (more whole : List Tree) → 8 < length now
    → length now ≤ 9 → take 9 (trees_in now ++ more) ≡ whole → trees_in now ≡ whole
enough_found now more whole least most h =
    let long = length-map now (λ (filter : Bor Filter). tree filter.now) in
    enough (trees_in now) more (omega (arith, long, least)) (omega (arith, long, most)) ∙ h

next_there : (fs : List Filter) (i : ℕ) (f : Filter) → i < length fs → f ≡ get_or fs i f
    → drop i fs ≡ f ∷ drop (i + 1) fs
next_there fs i f within is =
    drop-cons fs i f within ∙ ap (λ g. g ∷ drop (suc i) fs) (sym is)
    ∙ ap (λ n. f ∷ drop n fs) (sym (add-one i))

abbrev pub left : ℕ → List Filter → List Tree
left i fs = branches_in (trees_of (map tree (drop i fs)))

pub next_gathered : (fs : List Filter) (i : ℕ) (f : Filter) (found now whole : List Tree)
    → i < length fs → f ≡ get_or fs i f
    → now ≡ take 9 (found ++ branches_of (tree f)) → take 9 (found ++ left i fs) ≡ whole
    → take 9 (now ++ left (i + 1) fs) ≡ whole
next_gathered fs i f found now whole within is step h =
    let P : List Filter → Type 0 =
    λ gs. take 9 (found ++ branches_in (trees_of (map tree gs))) ≡ whole in
    let there : P (f ∷ drop (i + 1) fs) = subst P (next_there fs i f within is) h in
    ap (λ ts. take 9 (ts ++ left (i + 1) fs)) step
    ∙ take_again 9 (found ++ branches_of (tree f)) (left (i + 1) fs)
    ∙ ap (take 9) (append_assoc found (branches_of (tree f)) (left (i + 1) fs)) ∙ there

-- ---- what the first nine tell

pub few : {X : Type 0} (xs ys : List X) → ys ≡ take 9 xs → length ys ≤ 8 → ys ≡ xs
few xs ys first short =
    let cut = length-take 9 xs in
    let long = ap length first in
    first ∙ take_all 9 xs (omega (arith, cut, long, short))
