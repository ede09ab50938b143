-- What is left of the edges of a way, and the first edge that passes a test.
use Rattle.std.proofs.Common.{◌≡◌, ℕ, zero, suc, ◌<◌, ◌+◌, Bool, true, false, ◌||◌, not, cond, List}
use Rattle.std.proofs.Common.{[], ◌∷◌, ◌++◌, map, length, get_or, drop, take, refl, sym, ap, ◌∙◌}
use Rattle.std.proofs.Common.{drop-cons, arith}
use mathlib.Core.Bool.{beq}
use Rattle.std.specs.List.{list_any, flat_map, count_by}
use Rattle.std.proofs.lemmas.List.Folds.{list_any-append, list_any_at}
use Rattle.std.proofs.lemmas.List.{flat_map_more, take_more}
use Rattle.std.proofs.lemmas.List.Sums.{sum_by-append}
use Rattle.gm_base.proofs.Lists.{any_map}
use Rattle.gm_geom.specs.declared.point.Point.{Point}
use Rattle.gm_shapes.specs.declared.segment.Segment.{Segment}
use Rattle.gm_geom.specs.Geometry.{joined}
use Rattle.gm_shapes.specs.Segment.{segment}
use Rattle.gm_shapes.specs.Edge.{lone_edge, edges_from, edges_between, edges_between_all}
use Rattle.gm_shapes.specs.Polygon.{is_odd, is_around, crosses}

pub list_any-flat_map : {X Y : Type 0} (test : Y → Bool) (f : X → List Y) (xs : List X)
    → list_any test (flat_map f xs) ≡ list_any (λ x. list_any test (f x)) xs
list_any-flat_map test f [] = refl
list_any-flat_map test f (x ∷ xs) =
    list_any-append test (f x) (flat_map f xs)
    ∙ ap (λ b. list_any test (f x) || b) (list_any-flat_map test f xs)

-- a point, a line or a polygon whose edges have one that passes
pub found_point : (test : Segment → Bool) (points : List Point) (i : ℕ) (d : Point)
    → i < length points → test (lone_edge (get_or points i d)) ≡ true
    → list_any test (map lone_edge points) ≡ true
found_point test points i d below found =
    any_map test lone_edge points
    ∙ list_any_at (λ p. test (lone_edge p)) points i d below found

pub found_line : (test : Segment → Bool) (lines : List (List Point)) (i : ℕ) (d : List Point)
    → i < length lines → list_any test (edges_between (get_or lines i d)) ≡ true
    → list_any test (edges_between_all lines) ≡ true
found_line test lines i d below found =
    list_any-flat_map test edges_between lines
    ∙ list_any_at (λ line. list_any test (edges_between line)) lines i d below found

any_joined : (test : Segment → Bool) (areas : List (List (List Point)))
    → list_any test (edges_between_all (joined areas))
    ≡ list_any (λ rings. list_any test (edges_between_all rings)) areas
any_joined test [] = refl
any_joined test (rings ∷ areas) =
    list_any-flat_map test edges_between (rings ++ joined areas)
    ∙ list_any-append (λ line. list_any test (edges_between line)) rings (joined areas)
    ∙ sym (ap (λ b. b || list_any (λ line. list_any test (edges_between line)) (joined areas))
    (list_any-flat_map test edges_between rings))
    ∙ ap (λ b. list_any test (edges_between_all rings) || b)
    (sym (list_any-flat_map test edges_between (joined areas)) ∙ any_joined test areas)

pub found_area : (test : Segment → Bool) (areas : List (List (List Point))) (i : ℕ)
    (d : List (List Point)) → i < length areas
    → list_any test (edges_between_all (get_or areas i d)) ≡ true
    → list_any test (edges_between_all (joined areas)) ≡ true
found_area test areas i d below found =
    any_joined test areas
    ∙ list_any_at (λ rings. list_any test (edges_between_all rings)) areas i d below found

abbrev pub xor : Bool → Bool → Bool
xor true b = not b
xor false b = b

xor_not : (a b : Bool) → xor (not a) b ≡ not (xor a b)
xor_not true true = refl
xor_not true false = refl
xor_not false b = refl

pub xor_assoc : (a b c : Bool) → xor a (xor b c) ≡ xor (xor a b) c
xor_assoc true b c = sym (xor_not b c)
xor_assoc false b c = refl

pub is_odd-add : (m n : ℕ) → is_odd (m + n) ≡ xor (is_odd m) (is_odd n)
is_odd-add zero n = let e : zero + n ≡ n = omega arith in ap is_odd e
is_odd-add (suc m) n = let e : suc m + n ≡ suc (m + n) = omega arith in
    ap is_odd e ∙ ap not (is_odd-add m n) ∙ sym (xor_not (is_odd m) (is_odd n))

pub odd_count-append : {X : Type 0} (test : X → Bool) (xs ys : List X)
    → is_odd (count_by test (xs ++ ys))
    ≡ xor (is_odd (count_by test xs)) (is_odd (count_by test ys))
odd_count-append test xs ys =
    ap is_odd (sum_by-append (λ x. cond (test x) 1 0) xs ys)
    ∙ is_odd-add (count_by test xs) (count_by test ys)

odd_one : (b : Bool) → is_odd (0 + cond b 1 0) ≡ b
odd_one true = refl
odd_one false = refl

-- the count of a list that begins with x
pub odd_count-cons : {X : Type 0} (test : X → Bool) (x : X) (xs : List X)
    → is_odd (count_by test (x ∷ xs)) ≡ xor (test x) (is_odd (count_by test xs))
odd_count-cons test x xs =
    odd_count-append test (x ∷ []) xs
    ∙ ap (λ b. xor b (is_odd (count_by test xs))) (odd_one (test x))

-- the crossings left are that of the next edge and those after it
pub crossings_left : (p start : Point) (points : List Point) (i : ℕ) (d : Point) → i < length points
    → is_odd (count_by (crosses p) (edges_from start (drop i points)))
    ≡ xor (crosses p (segment start (get_or points i d)))
    (is_odd (count_by (crosses p) (edges_from (get_or points i d) (drop (suc i) points))))
crossings_left p start points i d below =
    ap (λ ps. is_odd (count_by (crosses p) (edges_from start ps))) (drop-cons points i d below)
    ∙ odd_count-cons (crosses p) (segment start (get_or points i d))
    (edges_from (get_or points i d) (drop (suc i) points))

unequal_is : (a b : Bool) → not (beq a b) ≡ xor a b
unequal_is true true = refl
unequal_is true false = refl
unequal_is false true = refl
unequal_is false false = refl

-- one turn of a count whose oddness is kept
pub next_odd : (all odd new rest next : Bool) → all ≡ xor odd rest → rest ≡ xor new next
    → all ≡ xor (not (beq odd new)) next
next_odd all odd new rest next e f =
    e ∙ ap (λ b. xor odd b) f ∙ xor_assoc odd new next
    ∙ ap (λ b. xor b next) (sym (unequal_is odd new))

-- one turn of the same, ring by ring
pub rings_crossed : (p : Point) (rings : List (List Point)) (i : ℕ) (d ring : List Point)
    (odd new : Bool) → i < length rings → ring ≡ get_or rings i d → odd ≡ is_around p (take i rings)
    → new ≡ is_odd (count_by (crosses p) (edges_between ring))
    → not (beq odd new) ≡ is_around p (take (i + 1) rings)
rings_crossed p rings i d ring odd new below at e f =
    unequal_is odd new
    ∙ ap (λ b. xor b new) e
    ∙ ap (λ b. xor (is_around p (take i rings)) b)
    (f ∙ ap (λ ring. is_odd (count_by (crosses p) (edges_between ring))) at)
    ∙ sym (odd_count-append (crosses p) (edges_between_all (take i rings))
    (edges_between (get_or rings i d)))
    ∙ ap (λ es. is_odd (count_by (crosses p) es))
    (flat_map_more edges_between [] (take i rings) (get_or rings i d)
    ∙ ap edges_between_all (sym (take_more rings i d below)))

-- a list, or a list of lists, one of whose points passes
pub found_in : (test : Point → Bool) (lists : List (List Point)) (i : ℕ) (d : List Point)
    → i < length lists → list_any test (get_or lists i d) ≡ true
    → list_any test (joined lists) ≡ true
found_in test lists i d below found =
    list_any-flat_map test (λ list. list) lists
    ∙ list_any_at (λ list. list_any test list) lists i d below found

pub found_in_two : (test : Point → Bool) (areas : List (List (List Point))) (i : ℕ)
    (d : List (List Point)) → i < length areas → list_any test (joined (get_or areas i d)) ≡ true
    → list_any test (joined (joined areas)) ≡ true
found_in_two test areas i d below found =
    list_any-flat_map test (λ list. list) (joined areas)
    ∙ list_any-flat_map (λ list. list_any test list) (λ rings. rings) areas
    ∙ list_any_at (λ rings. list_any (λ list. list_any test list) rings) areas i d below
    (sym (list_any-flat_map test (λ list. list) (get_or areas i d)) ∙ found)
