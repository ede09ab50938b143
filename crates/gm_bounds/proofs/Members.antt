-- The steps of looking for the bounds of the members of an AND or an OR.
use Rattle.std.proofs.Common.{◌≡◌, ℕ, suc, ◌+◌, ◌<◌, List, [], ◌∷◌, length, map, drop, get_or, sym}
use Rattle.std.proofs.Common.{ap, ◌∙◌, subst, add-one, drop-cons, Result}
use Rattle.std.specs.Prelude.{IfOk}
use Rattle.std.specs.declared.vec.Vec.{Vec}
use Rattle.std.specs.declared.alloc.Global.{Global}
use Rattle.gm_filter.specs.declared.filter.Filter.{Filter}
use Rattle.gm_filter.specs.declared.filter.Filter.TheVariants.{And, Or}
use Rattle.gm_filter.specs.declared.filter.Filter as generated
use Rattle.gm_filter.specs.declared.filter.Filter.TheOpen as open_filter
use Rattle.gm_filter.specs.declared.filter.Filter.TheFolds.{fold-roll-Filter}
use Rattle.gm_filter.specs.Tree.{Tree, Trees, all, any, layer, tree, trees_of}
use Rattle.gm_bounds.specs.declared.bound.Bound.{Bound}
use Rattle.gm_bounds.specs.declared.bound.Bound.TheVariants.{World, Listed}
use Rattle.gm_bounds.specs.Bound.{Rules, bound_of, all_of, any_of}
use Rattle.gm_bounds.specs.Kept.{AllHaveKept}
use Rattle.gm_bounds.specs.Lists.{both, either, counted}

and_tree : (members : Vec Filter Global)
    → tree (And members) ≡ all (trees_of (map tree members.items))
unfolding generated.roll-Filter denote.Hole.Carrier.roll
and_tree members = fold-roll-Filter Tree layer (open_filter.And members)

or_tree : (members : Vec Filter Global)
    → tree (Or members) ≡ any (trees_of (map tree members.items))
unfolding generated.roll-Filter denote.Hole.Carrier.roll
or_tree members = fold-roll-Filter Tree layer (open_filter.Or members)

abbrev pub trees_from : ℕ → List Filter → Trees
trees_from i fs = trees_of (map tree (drop i fs))

next_there : (fs : List Filter) (i : ℕ) (f : Filter) → i < length fs → f ≡ get_or fs i f
    → drop i fs ≡ f ∷ drop (i + 1) fs
next_there fs i f within is =
    drop-cons fs i f within ∙ ap (λ g. g ∷ drop (suc i) fs) (sym is)
    ∙ ap (λ n. f ∷ drop n fs) (sym (add-one i))

pub next_kept : (fs : List Filter) (i : ℕ) (f : Filter) → i < length fs → f ≡ get_or fs i f
    → AllHaveKept (trees_from i fs) → AllHaveKept (trees_from (i + 1) fs)
next_kept fs i f within is h =
    let P : List Filter → Type 0 = λ gs. AllHaveKept (trees_of (map tree gs)) in
    let both : P (f ∷ drop (i + 1) fs) = subst P (next_there fs i f within is) h in both.1

module _ {X : Type 0} (r : Rules X) where
  pub next_all : (fs : List Filter) (i : ℕ) (f : Filter) (found next now whole : Bound X)
      → i < length fs → f ≡ get_or fs i f
      → next ≡ bound_of r (tree f) → now ≡ both r.met found next
      → all_of r found (trees_from i fs) ≡ whole → all_of r now (trees_from (i + 1) fs) ≡ whole
  next_all fs i f found next now whole within is of step h =
      let P : List Filter → Type 0 = λ gs. all_of r found (trees_of (map tree gs)) ≡ whole in
      let there : P (f ∷ drop (i + 1) fs) = subst P (next_there fs i f within is) h in
      ap (λ b. all_of r b (trees_from (i + 1) fs)) (step ∙ ap (both r.met found) of) ∙ there

  pub next_any : (fs : List Filter) (i : ℕ) (f : Filter) (found next now whole : Bound X)
      → i < length fs → f ≡ get_or fs i f
      → next ≡ bound_of r (tree f) → now ≡ either found next
      → any_of r found (trees_from i fs) ≡ whole → any_of r now (trees_from (i + 1) fs) ≡ whole
  next_any fs i f found next now whole within is of step h =
      let P : List Filter → Type 0 = λ gs. any_of r found (trees_of (map tree gs)) ≡ whole in
      let there : P (f ∷ drop (i + 1) fs) = subst P (next_there fs i f within is) h in
      ap (λ b. any_of r b (trees_from (i + 1) fs)) (step ∙ ap (either found) of) ∙ there

  pub at_and : {E : Type 0} (result : Result (Bound X) E) (filter : Filter)
      (members : Vec Filter Global) (slice : List Filter) → filter ≡ And members
      → slice ≡ members.items
      → IfOk result (λ b. b ≡ all_of r World (trees_of (map tree slice)))
      → IfOk result (λ b. b ≡ bound_of r (tree filter))
  at_and result filter members slice is list h =
      let P : Tree → Type 0 = λ t. IfOk result (λ b. b ≡ bound_of r t) in
      let Q : List Filter → Type 0 =
      λ gs. IfOk result (λ b. b ≡ all_of r World (trees_of (map tree gs))) in
      subst P (sym (ap tree is ∙ and_tree members)) (subst Q list h)

  pub at_or : {E : Type 0} (result : Result (Bound X) E) (filter : Filter)
      (members : Vec Filter Global) (slice : List Filter) (joined : Bound X) → filter ≡ Or members
      → slice ≡ members.items
      → joined ≡ any_of r (Listed []) (trees_of (map tree slice))
      → IfOk result (λ b. b ≡ counted r.counted joined)
      → IfOk result (λ b. b ≡ bound_of r (tree filter))
  at_or result filter members slice joined is list of h =
      let P : Tree → Type 0 = λ t. IfOk result (λ b. b ≡ bound_of r t) in
      let Q : Bound X → Type 0 = λ b. IfOk result (λ few. few ≡ counted r.counted b) in
      let R : List Filter → Type 0 = λ gs. joined ≡ any_of r (Listed []) (trees_of (map tree gs)) in
      subst P (sym (ap tree is ∙ or_tree members)) (subst Q (subst R list of) h)
