-- Meeting is symmetric.
use Rattle.std.proofs.Common.{◌≡◌, Bool, true, false, ◌&&◌, ◌||◌, not, List, [], ◌∷◌, refl, ap, ◌∙◌}
use Rattle.std.specs.List.{list_any}
use Rattle.gm_geom.specs.declared.point.Point.{Point}
use Rattle.gm_geom.specs.declared.point.Box2.{Box2}
use Rattle.gm_geom.specs.declared.geometry.Geometry.{Geometry}
use Rattle.gm_geom.specs.Geometry.{points_of, areas_of}
use Rattle.gm_geom.specs.Validity.{is_empty}
use Rattle.gm_shapes.specs.declared.segment.Segment.{Segment}
use Rattle.gm_shapes.specs.Segment.{box_of, reaches, do_overlap, is_beside, do_meet}
use Rattle.gm_shapes.specs.Edge.{edges_of}
use Rattle.gm_shapes.specs.Meeting.{is_in_any, has_edge_on, has_vertex_in, do_intersect}

and_swap : (a b : Bool) → (a && b) ≡ (b && a)
and_swap true true = refl
and_swap true false = refl
and_swap false true = refl
and_swap false false = refl

or_swap : (a b : Bool) → (a || b) ≡ (b || a)
or_swap true true = refl
or_swap true false = refl
or_swap false true = refl
or_swap false false = refl

-- what settles an 'or'
pub by_second : (seen e v : Bool) → seen ≡ v → seen ≡ true → seen ≡ (e || v)
by_second seen true v is at = at
by_second seen false v is at = is

or_across : (a b c d : Bool) → ((a || b) || (c || d)) ≡ ((a || c) || (b || d))
or_across true b c d = refl
or_across false true true d = refl
or_across false true false d = refl
or_across false false c d = refl

any_same : {X : Type 0} (f g : X → Bool) (xs : List X) → ((x : X) → f x ≡ g x)
    → list_any f xs ≡ list_any g xs
any_same f g [] e = refl
any_same f g (x ∷ xs) e =
    ap (λ b. b || list_any f xs) (e x) ∙ ap (λ b. g x || b) (any_same f g xs e)

any_or : {X : Type 0} (f g : X → Bool) (xs : List X)
    → (list_any f xs || list_any g xs) ≡ list_any (λ x. f x || g x) xs
any_or f g [] = refl
any_or f g (x ∷ xs) =
    or_across (f x) (list_any f xs) (g x) (list_any g xs)
    ∙ ap (λ b. (f x || g x) || b) (any_or f g xs)

any_none : {X : Type 0} (xs : List X) → false ≡ list_any (λ x. false) xs
any_none [] = refl
any_none (x ∷ xs) = any_none xs

-- some x and some y, or some y and some x
any_swap : {X Y : Type 0} (f : X → Y → Bool) (xs : List X) (ys : List Y)
    → list_any (λ x. list_any (f x) ys) xs ≡ list_any (λ y. list_any (λ x. f x y) xs) ys
any_swap f [] ys = any_none ys
any_swap f (x ∷ xs) ys =
    ap (λ b. list_any (f x) ys || b) (any_swap f xs ys)
    ∙ any_or (f x) (λ y. list_any (λ x. f x y) xs) ys

-- no vertex is in a polygon where there is none
no_area : (one : List Point) (areas : List (List (List Point))) → not (is_empty areas) ≡ false
    → false ≡ list_any (is_in_any areas) one
no_area one [] e = any_none one
no_area one (rings ∷ areas) e = absurd (cc)

pub no_vertex_in : (one two : Geometry) → not (is_empty (areas_of two)) ≡ false
    → false ≡ has_vertex_in one two
no_vertex_in one two e = no_area (points_of one) (areas_of two) e

pub overlap_swap : (b c : Box2) → do_overlap b c ≡ do_overlap c b
overlap_swap b c = and_swap (reaches b c) (reaches c b)

pub meet_swap : (s t : Segment) → do_meet s t ≡ do_meet t s
meet_swap s t =
    ap (λ o. o && (not (is_beside s t) && not (is_beside t s))) (overlap_swap (box_of s) (box_of t))
    ∙ ap (λ o. do_overlap (box_of t) (box_of s) && o)
    (and_swap (not (is_beside s t)) (not (is_beside t s)))

edge_swap : (one two : Geometry) → has_edge_on one two ≡ has_edge_on two one
edge_swap one two =
    any_swap do_meet (edges_of one) (edges_of two)
    ∙ any_same (λ t. list_any (λ s. do_meet s t) (edges_of one))
    (λ t. list_any (do_meet t) (edges_of one)) (edges_of two)
    (λ t. any_same (λ s. do_meet s t) (do_meet t) (edges_of one) (λ s. meet_swap s t))

pub intersect_swap : (one two : Geometry) → do_intersect one two ≡ do_intersect two one
intersect_swap one two =
    ap (λ b. b || (has_vertex_in one two || has_vertex_in two one)) (edge_swap one two)
    ∙ ap (λ b. has_edge_on two one || b) (or_swap (has_vertex_in one two) (has_vertex_in two one))
