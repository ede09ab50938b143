-- Whether a point is in a polygon, from the edges at its height, polygon by polygon.
use Rattle.std.proofs.Common.{◌≡◌, ℕ, suc, ◌+◌, ◌<◌, ◌≤◌, Bool, true, false, ◌&&◌, ◌||◌, not, List}
use Rattle.std.proofs.Common.{[], ◌∷◌, ◌++◌, length, get_or, drop, Option, None, Some, refl, sym}
use Rattle.std.proofs.Common.{ap, ◌∙◌, arith}
use mathlib.Core.Bool.{beq}
use Rattle.std.specs.Prelude.{filter}
use Rattle.std.specs.List.{list_any, count_by}
use Rattle.std.proofs.lemmas.Bool.{both_ways, ne_eqb, eq-eqb}
use Rattle.std.proofs.lemmas.List.{drop_more}
use Rattle.std.proofs.lemmas.List.Elements.{filter-append}
use Rattle.gm_base.proofs.Booleans.{or_false}
use Rattle.gm_geom.specs.declared.point.Point.{Point}
use Rattle.gm_shapes.specs.declared.segment.Segment.{Segment}
use Rattle.gm_shapes.specs.Segment.{do_meet}
use Rattle.gm_shapes.specs.Edge.{lone_edge, edges_between_all}
use Rattle.gm_shapes.specs.Polygon.{is_odd, crosses}
use Rattle.gm_shapes.specs.Meeting.{is_in_any}
use Rattle.gm_prepared.specs.declared.edge.Edge.{Edge}
use Rattle.gm_prepared.specs.Edge.{segment_of, tagged_edge, tagged, area_edges}
use Rattle.gm_prepared.specs.Area.{is_one_area, differs, is_held}
use Rattle.gm_prepared.proofs.Lists.{unequal_is, differs_assoc, odd_count-cons}

abbrev pub settled_at : Point → Option ℕ → Bool → Edge → Bool
settled_at p area odd e =
    do_meet (lone_edge p) (segment_of e) || (odd && not (is_one_area area e.area))

-- one turn of the walk over the edges
next_held : (p : Point) (edges : List Edge) (i : ℕ) (d : Edge) (area : Option ℕ) (odd all : Bool)
    → i < length edges → all ≡ is_held p area odd (drop i edges)
    → all ≡ (settled_at p area odd (get_or edges i d)
    || is_held p (get_or edges i d).area (differs odd (crosses p (segment_of (get_or edges i d))))
    (drop (i + 1) edges))
next_held p edges i d area odd all below e = e ∙ ap (is_held p area odd) (drop_more edges i d below)

pub held_more : (p : Point) (edges : List Edge) (i : ℕ) (d : Edge) (area : Option ℕ)
    (odd all settled crossed : Bool) → i < length edges → all ≡ is_held p area odd (drop i edges)
    → settled ≡ settled_at p area odd (get_or edges i d) → settled ≡ false
    → crossed ≡ crosses p (segment_of (get_or edges i d))
    → all ≡ is_held p (get_or edges i d).area (not (beq odd crossed)) (drop (i + 1) edges)
held_more p edges i d area odd all settled crossed below e is on crossing =
    next_held p edges i d area odd all below e
    ∙ ap (λ b. b || is_held p (get_or edges i d).area
    (differs odd (crosses p (segment_of (get_or edges i d)))) (drop (i + 1) edges)) (sym is ∙ on)
    ∙ ap (λ b. is_held p (get_or edges i d).area b (drop (i + 1) edges))
    (ap (differs odd) (sym crossing) ∙ sym (unequal_is odd crossed))

-- an edge that holds the point, or that its ray crosses, is kept
pub record KeepsNear (p : Point) (keep : Edge → Bool) : Type 0 where
  pub touched : (e : Edge) → do_meet (lone_edge p) (segment_of e) ≡ true → keep e ≡ true
  pub crossed : (e : Edge) → crosses p (segment_of e) ≡ true → keep e ≡ true

pub differs_false : (b : Bool) → differs b false ≡ b
differs_false true = refl
differs_false false = refl

pub only_true : (a b : Bool) → b ≡ false → (a ≡ true → b ≡ true) → a ≡ false
only_true true b e f = absurd (both_ways b e (f refl))
only_true false b e f = refl

abbrev pub on_some : Point → List Segment → Bool
on_some p segments = list_any (do_meet (lone_edge p)) segments

abbrev pub crosses_oddly : Point → List Segment → Bool
crosses_oddly p segments = is_odd (count_by (crosses p) segments)

kept_same : (t odd c any o r : Bool)
    → ((t || (odd && not true)) || ((any || differs (differs odd c) o) || r))
    ≡ (((t || any) || differs odd (differs c o)) || r)
kept_same true odd c any o r = refl
kept_same false true c any o r = ap (λ b. (any || b) || r) (differs_assoc true c o)
kept_same false false c any o r = refl

same_kept : (p : Point) (keep : Edge → Bool) (near : KeepsNear p keep) (n : ℕ) (rest : List Edge)
    (r : Bool) (s : Segment) (segments : List Segment) (odd b : Bool)
    → keep (tagged_edge (Some n) s) ≡ b
    → ((odd : Bool)
    → is_held p (Some n) odd (filter keep (tagged (Some n) segments) ++ rest)
    ≡ ((on_some p segments || differs odd (crosses_oddly p segments)) || r))
    → is_held p (Some n) odd (filter keep (tagged (Some n) (s ∷ segments)) ++ rest)
    ≡ ((on_some p (s ∷ segments) || differs odd (crosses_oddly p (s ∷ segments))) || r)
same_kept p keep near n rest r s segments odd true k later =
    let one : is_one_area (Some n) (Some n) ≡ true = eq-eqb n n refl in
    rw k (
    ap (λ b. (do_meet (lone_edge p) s || (odd && not b))
    || is_held p (Some n) (differs odd (crosses p s))
    (filter keep (tagged (Some n) segments) ++ rest)) one
    ∙ ap (λ b. (do_meet (lone_edge p) s || (odd && not true)) || b)
    (later (differs odd (crosses p s)))
    ∙ kept_same (do_meet (lone_edge p) s) odd (crosses p s) (on_some p segments)
    (crosses_oddly p segments) r
    ∙ ap (λ o. ((do_meet (lone_edge p) s || on_some p segments) || differs odd o) || r)
    (sym (odd_count-cons (crosses p) s segments))
    )
same_kept p keep near n rest r s segments odd false k later =
    let off : do_meet (lone_edge p) s ≡ false =
    only_true (do_meet (lone_edge p) s) (keep (tagged_edge (Some n) s)) k
    (near.touched (tagged_edge (Some n) s)) in
    let beside : crosses p s ≡ false =
    only_true (crosses p s) (keep (tagged_edge (Some n) s)) k
    (near.crossed (tagged_edge (Some n) s)) in
    let same : crosses_oddly p (s ∷ segments) ≡ crosses_oddly p segments =
    odd_count-cons (crosses p) s segments
    ∙ ap (λ c. differs c (crosses_oddly p segments)) beside in
    rw k (
    later odd
    ∙ ap (λ o. (on_some p segments || differs odd o) || r) (sym same)
    ∙ ap (λ t. ((t || on_some p segments) || differs odd (crosses_oddly p (s ∷ segments))) || r)
    (sym off)
    )

-- the edges of the polygon n, after others of it
same_area : (p : Point) (keep : Edge → Bool) (near : KeepsNear p keep) (n : ℕ) (rest : List Edge)
    (r : Bool) → ((odd : Bool) → is_held p (Some n) odd rest ≡ (odd || r))
    → (segments : List Segment) (odd : Bool)
    → is_held p (Some n) odd (filter keep (tagged (Some n) segments) ++ rest)
    ≡ ((on_some p segments || differs odd (crosses_oddly p segments)) || r)
same_area p keep near n rest r base [] odd = base odd ∙ ap (λ b. b || r) (sym (differs_false odd))
same_area p keep near n rest r base (s ∷ segments) odd =
    same_kept p keep near n rest r s segments odd (keep (tagged_edge (Some n) s)) refl
    (same_area p keep near n rest r base segments)

kept_other : (t odd c any o r : Bool)
    → ((t || (odd && not false)) || ((any || differs (differs odd c) o) || r))
    ≡ (odd || (((t || any) || differs c o) || r))
kept_other true true c any o r = refl
kept_other true false c any o r = refl
kept_other false true c any o r = refl
kept_other false false c any o r = refl

other_kept : (p : Point) (keep : Edge → Bool) (near : KeepsNear p keep) (area : Option ℕ) (n : ℕ)
    (rest : List Edge) (r : Bool) (s : Segment) (segments : List Segment) (odd : Bool)
    → is_one_area area (Some n) ≡ false → (b : Bool) → keep (tagged_edge (Some n) s) ≡ b
    → ((odd : Bool)
    → is_held p (Some n) odd (filter keep (tagged (Some n) segments) ++ rest)
    ≡ ((on_some p segments || differs odd (crosses_oddly p segments)) || r))
    → is_held p area odd (filter keep (tagged (Some n) segments) ++ rest)
    ≡ (odd || ((on_some p segments || crosses_oddly p segments) || r))
    → is_held p area odd (filter keep (tagged (Some n) (s ∷ segments)) ++ rest)
    ≡ (odd || ((on_some p (s ∷ segments) || crosses_oddly p (s ∷ segments)) || r))
other_kept p keep near area n rest r s segments odd other true k same later =
    rw k (
    ap (λ b. (do_meet (lone_edge p) s || (odd && not b))
    || is_held p (Some n) (differs odd (crosses p s))
    (filter keep (tagged (Some n) segments) ++ rest)) other
    ∙ ap (λ b. (do_meet (lone_edge p) s || (odd && not false)) || b)
    (same (differs odd (crosses p s)))
    ∙ kept_other (do_meet (lone_edge p) s) odd (crosses p s) (on_some p segments)
    (crosses_oddly p segments) r
    ∙ ap (λ o. odd || (((do_meet (lone_edge p) s || on_some p segments) || o) || r))
    (sym (odd_count-cons (crosses p) s segments))
    )
other_kept p keep near area n rest r s segments odd other false k same later =
    let off : do_meet (lone_edge p) s ≡ false =
    only_true (do_meet (lone_edge p) s) (keep (tagged_edge (Some n) s)) k
    (near.touched (tagged_edge (Some n) s)) in
    let beside : crosses p s ≡ false =
    only_true (crosses p s) (keep (tagged_edge (Some n) s)) k
    (near.crossed (tagged_edge (Some n) s)) in
    let even : crosses_oddly p (s ∷ segments) ≡ crosses_oddly p segments =
    odd_count-cons (crosses p) s segments
    ∙ ap (λ c. differs c (crosses_oddly p segments)) beside in
    rw k (
    later
    ∙ ap (λ o. odd || ((on_some p segments || o) || r)) (sym even)
    ∙ ap (λ t. odd || (((t || on_some p segments) || crosses_oddly p (s ∷ segments)) || r))
    (sym off)
    )

-- the edges of the polygon n, after those of another
other_area : (p : Point) (keep : Edge → Bool) (near : KeepsNear p keep) (area : Option ℕ) (n : ℕ)
    (rest : List Edge) (r : Bool) → is_one_area area (Some n) ≡ false
    → ((odd : Bool) → is_held p (Some n) odd rest ≡ (odd || r))
    → ((odd : Bool) → is_held p area odd rest ≡ (odd || r))
    → (segments : List Segment) (odd : Bool)
    → is_held p area odd (filter keep (tagged (Some n) segments) ++ rest)
    ≡ (odd || ((on_some p segments || crosses_oddly p segments) || r))
other_area p keep near area n rest r other base before [] odd = before odd
other_area p keep near area n rest r other base before (s ∷ segments) odd =
    other_kept p keep near area n rest r s segments odd other (keep (tagged_edge (Some n) s)) refl
    (same_area p keep near n rest r base segments)
    (other_area p keep near area n rest r other base before segments odd)

-- no polygon from n on has the number of the area
pub record IsFresh (area : Option ℕ) (n : ℕ) : Type 0 where
  pub fresh : (m : ℕ) → n ≤ m → is_one_area area (Some m) ≡ false

pub fresh_next : (n : ℕ) → IsFresh (Some n) (suc n)
fresh_next n = record { fresh = λ m h. ne_eqb n m (λ e. absurd (omega (arith, e, h))) }

pub fresh_later : (area : Option ℕ) (n : ℕ) → IsFresh area n → IsFresh area (suc n)
fresh_later area n new = record { fresh = λ m h. new.fresh m (omega (arith, h)) }

held_areas : (p : Point) (keep : Edge → Bool) (near : KeepsNear p keep)
    (areas : List (List (List Point))) (n : ℕ) (area : Option ℕ) (odd : Bool) → IsFresh area n
    → is_held p area odd (filter keep (area_edges n areas)) ≡ (odd || is_in_any areas p)
held_areas p keep near [] n area odd new = or_false odd
held_areas p keep near (rings ∷ areas) n area odd new =
    ap (is_held p area odd)
    (filter-append keep (tagged (Some n) (edges_between_all rings)) (area_edges (suc n) areas))
    ∙ other_area p keep near area n (filter keep (area_edges (suc n) areas)) (is_in_any areas p)
    (new.fresh n (omega arith))
    (λ odd. held_areas p keep near areas (suc n) (Some n) odd (fresh_next n))
    (λ odd. held_areas p keep near areas (suc n) area odd (fresh_later area n new))
    (edges_between_all rings) odd

-- the point is in one of the polygons exactly where the edges that are kept hold it
pub held_is : (p : Point) (keep : Edge → Bool) → KeepsNear p keep
    → (areas : List (List (List Point)))
    → is_held p None false (filter keep (area_edges 0 areas)) ≡ is_in_any areas p
held_is p keep near areas =
    held_areas p keep near areas 0 None false (record { fresh = λ m h. refl })
