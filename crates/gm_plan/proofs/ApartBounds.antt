-- What lists of tests have, the list of a bound has.
use Rattle.std.proofs.Common.{List, [], ◌++◌}
use Rattle.gm_filter.specs.Tree.{Tree, Trees, include, exclude, negated, all, any, compare, between}
use Rattle.gm_filter.specs.Tree.{like, one_of, is_null, ids, bbox, intersects, disjoint, within}
use Rattle.gm_filter.specs.Tree.{during, before, after, tequals, no_trees, tree_and}
use Rattle.gm_bounds.specs.declared.bound.Bound.{Bound}
use Rattle.gm_bounds.specs.declared.bound.Bound.TheVariants.{World, Listed}
use Rattle.gm_bounds.specs.Bound.{Rules, bound_of, all_of, any_of}
use Rattle.gm_bounds.specs.Lists.{both, either, counted}

abbrev pub IsOf : {X : Type 0} → (List X → Type 0) → Bound X → Type 0
IsOf P World = Unit {0}
IsOf P (Listed xs) = P xs

-- of an OR only the weaker Q is known before it is counted
pub record Keeps {X : Type 0} (r : Rules X) (P Q : List X → Type 0) : Type 0 where
  pub test : (t : Tree) → IsOf P (r.test t)
  pub none : P []
  pub met : (xs ys : List X) → P xs → P ys → P (r.met xs ys)
  pub weaker : (xs : List X) → P xs → Q xs
  pub joined : (xs ys : List X) → Q xs → Q ys → Q (xs ++ ys)
  pub counted : (xs : List X) → Q xs → P (r.counted xs)

module _ {X : Type 0} (r : Rules X) (P Q : List X → Type 0) (keeps : Keeps r P Q) where
  of_both : (a b : Bound X) → IsOf P a → IsOf P b → IsOf P (both r.met a b)
  of_both World b p q = q
  of_both (Listed xs) World p q = p
  of_both (Listed xs) (Listed ys) p q = keeps.met xs ys p q

  of_either : (a b : Bound X) → IsOf Q a → IsOf P b → IsOf Q (either a b)
  of_either World b p q = tt
  of_either (Listed xs) World p q = tt
  of_either (Listed xs) (Listed ys) p q = keeps.joined xs ys p (keeps.weaker ys q)

  of_counted : (b : Bound X) → IsOf Q b → IsOf P (counted r.counted b)
  of_counted World p = tt
  of_counted (Listed xs) p = keeps.counted xs p

  mutual
    pub of_tree : (t : Tree) → IsOf P (bound_of r t)
    of_tree include = tt
    of_tree exclude = keeps.none
    of_tree (negated t) = tt
    of_tree (all ts) = of_all World tt ts
    of_tree (any ts) =
        of_counted (any_of r (Listed []) ts) (of_any (Listed []) (keeps.weaker [] keeps.none) ts)
    of_tree (compare a op l) = keeps.test (compare a op l)
    of_tree (between a low high) = keeps.test (between a low high)
    of_tree (like a pattern) = keeps.test (like a pattern)
    of_tree (one_of a literals) = keeps.test (one_of a literals)
    of_tree (is_null a) = keeps.test (is_null a)
    of_tree (ids texts) = keeps.test (ids texts)
    of_tree (bbox a b) = keeps.test (bbox a b)
    of_tree (intersects a g) = keeps.test (intersects a g)
    of_tree (disjoint a g) = keeps.test (disjoint a g)
    of_tree (within a g) = keeps.test (within a g)
    of_tree (during a low high) = keeps.test (during a low high)
    of_tree (before a at) = keeps.test (before a at)
    of_tree (after a at) = keeps.test (after a at)
    of_tree (tequals a at) = keeps.test (tequals a at)

    of_all : (found : Bound X) → IsOf P found → (ts : Trees) → IsOf P (all_of r found ts)
    of_all found p no_trees = p
    of_all found p (tree_and t ts) =
        of_all (both r.met found (bound_of r t)) (of_both found (bound_of r t) p (of_tree t)) ts

    of_any : (found : Bound X) → IsOf Q found → (ts : Trees) → IsOf Q (any_of r found ts)
    of_any found p no_trees = p
    of_any found p (tree_and t ts) =
        of_any (either found (bound_of r t)) (of_either found (bound_of r t) p (of_tree t)) ts
