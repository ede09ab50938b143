-- Whether a point is in a polygon and on none of its edges, from the edges at its height, polygon
-- by polygon.
use Rattle.std.proofs.Common.{◌≡◌, ℕ, suc, Bool, true, false, ◌&&◌, ◌||◌, not, if◌then◌else◌, List}
use Rattle.std.proofs.Common.{[], ◌∷◌, ◌++◌, Option, Some, refl, sym, ap, subst, ◌∙◌, arith}
use Rattle.std.specs.Prelude.{filter}
use Rattle.std.specs.List.{list_any}
use Rattle.std.proofs.lemmas.Bool.{eq-eqb}
use Rattle.std.proofs.lemmas.List.Elements.{filter-append}
use Rattle.gm_base.proofs.Booleans.{or_false}
use Rattle.gm_geom.specs.declared.point.Point.{Point}
use Rattle.gm_shapes.specs.declared.segment.Segment.{Segment}
use Rattle.gm_shapes.specs.Segment.{do_meet}
use Rattle.gm_shapes.specs.Edge.{lone_edge, edges_between_all}
use Rattle.gm_shapes.specs.Polygon.{crosses}
use Rattle.gm_shapes.specs.Meeting as meeting
use Rattle.gm_prepared.specs.declared.edge.Edge.{Edge}
use Rattle.gm_prepared.specs.declared.standing.Standing.{Standing}
use Rattle.gm_prepared.specs.Edge.{segment_of, tagged_edge, tagged, area_edges}
use Rattle.gm_prepared.specs.Area.{is_one_area, differs}
use Rattle.gm_prepared.specs.Standing.{no_edges, is_inside, with_edge, has_inside}
use Rattle.gm_prepared.proofs.Lists.{differs_assoc, odd_count-cons}
use Rattle.gm_prepared.proofs.Held.{KeepsNear, IsFresh, fresh_next, fresh_later, differs_false}
use Rattle.gm_prepared.proofs.Held.{only_true, on_some, crosses_oddly}

-- where a point stands after these segments too
abbrev inside_with : Point → Standing → List Segment → Bool
inside_with p s segments =
    differs s.odd (crosses_oddly p segments) && not (s.on_edge || on_some p segments)

no_more : (p : Point) (s : Standing) → is_inside s ≡ inside_with p s []
no_more p s = ap (λ o. o && not s.on_edge) (sym (differs_false s.odd))
    ∙ ap (λ b. differs s.odd false && not b) (or_false s.on_edge)

or_assoc : (a b c : Bool) → ((a || b) || c) ≡ (a || (b || c))
or_assoc true b c = refl
or_assoc false b c = refl

one_more : (p : Point) (s : Standing) (e : Edge) (segments : List Segment)
    → inside_with p (with_edge p s e) segments ≡ inside_with p s (segment_of e ∷ segments)
one_more p s e segments =
    ap (λ o. o && not ((s.on_edge || do_meet (lone_edge p) (segment_of e)) || on_some p segments))
    (differs_assoc s.odd (crosses p (segment_of e)) (crosses_oddly p segments)
    ∙ ap (differs s.odd) (sym (odd_count-cons (crosses p) (segment_of e) segments)))
    ∙ ap (λ b. differs s.odd (crosses_oddly p (segment_of e ∷ segments)) && not b)
    (or_assoc s.on_edge (do_meet (lone_edge p) (segment_of e)) (on_some p segments))

-- an edge that is far from the point changes nothing
far_off : (p : Point) (keep : Edge → Bool) (near : KeepsNear p keep) (s : Standing) (e : Edge)
    (segments : List Segment) → keep e ≡ false
    → inside_with p s segments ≡ inside_with p s (segment_of e ∷ segments)
far_off p keep near s e segments k =
    let off : do_meet (lone_edge p) (segment_of e) ≡ false =
    only_true (do_meet (lone_edge p) (segment_of e)) (keep e) k (near.touched e) in
    let beside : crosses p (segment_of e) ≡ false =
    only_true (crosses p (segment_of e)) (keep e) k (near.crossed e) in
    ap (λ o. differs s.odd o && not (s.on_edge || on_some p segments))
    (sym (odd_count-cons (crosses p) (segment_of e) segments
    ∙ ap (λ c. differs c (crosses_oddly p segments)) beside))
    ∙ ap (λ t. differs s.odd (crosses_oddly p (segment_of e ∷ segments))
    && not (s.on_edge || (t || on_some p segments))) (sym off)

never : (b : Bool) → (b && not true) ≡ false
never true = refl
never false = refl

always : (b : Bool) → (b && not false) ≡ b
always true = refl
always false = refl

-- an edge of the polygon n, after others of it, and after those of another
next_same : (p : Point) (s : Standing) (e : Edge) (edges : List Edge)
    → is_one_area s.area e.area ≡ true
    → has_inside p s (e ∷ edges) ≡ has_inside p (with_edge p s e) edges
next_same p s e edges one =
    ap (λ b. (is_inside s && not b)
    || has_inside p (with_edge p (if b then s else no_edges) e) edges) one
    ∙ ap (λ b. b || has_inside p (with_edge p s e) edges) (never (is_inside s))

next_other : (p : Point) (s : Standing) (e : Edge) (edges : List Edge)
    → is_one_area s.area e.area ≡ false
    → has_inside p s (e ∷ edges) ≡ (is_inside s || has_inside p (with_edge p no_edges e) edges)
next_other p s e edges other =
    ap (λ b. (is_inside s && not b)
    || has_inside p (with_edge p (if b then s else no_edges) e) edges) other
    ∙ ap (λ b. b || has_inside p (with_edge p no_edges e) edges) (always (is_inside s))

-- what the edges of later polygons tell
abbrev Later : Point → ℕ → List Edge → Bool → Type 0
Later p n rest r = (s : Standing) → s.area ≡ Some n → has_inside p s rest ≡ (is_inside s || r)

same_kept : (p : Point) (keep : Edge → Bool) (near : KeepsNear p keep) (n : ℕ) (rest : List Edge)
    (r : Bool) (x : Segment) (segments : List Segment) (s : Standing) (b : Bool) → s.area ≡ Some n
    → keep (tagged_edge (Some n) x) ≡ b
    → ((s : Standing) → s.area ≡ Some n
    → has_inside p s (filter keep (tagged (Some n) segments) ++ rest)
    ≡ (inside_with p s segments || r))
    → has_inside p s (filter keep (tagged (Some n) (x ∷ segments)) ++ rest)
    ≡ (inside_with p s (x ∷ segments) || r)
same_kept p keep near n rest r x segments s true is k later =
    let one : is_one_area s.area (Some n) ≡ true =
    ap (λ a. is_one_area a (Some n)) is ∙ eq-eqb n n refl in
    rw k (
    next_same p s (tagged_edge (Some n) x) (filter keep (tagged (Some n) segments) ++ rest) one
    ∙ later (with_edge p s (tagged_edge (Some n) x)) refl
    ∙ ap (λ b. b || r) (one_more p s (tagged_edge (Some n) x) segments)
    )
same_kept p keep near n rest r x segments s false is k later =
    rw k (later s is ∙ ap (λ b. b || r) (far_off p keep near s (tagged_edge (Some n) x) segments k))

-- the edges of the polygon n, after others of it
same_area : (p : Point) (keep : Edge → Bool) (near : KeepsNear p keep) (n : ℕ) (rest : List Edge)
    (r : Bool) → Later p n rest r → (segments : List Segment) (s : Standing) → s.area ≡ Some n
    → has_inside p s (filter keep (tagged (Some n) segments) ++ rest)
    ≡ (inside_with p s segments || r)
same_area p keep near n rest r base [] s is = base s is ∙ ap (λ b. b || r) (no_more p s)
same_area p keep near n rest r base (x ∷ segments) s is =
    same_kept p keep near n rest r x segments s (keep (tagged_edge (Some n) x)) is refl
    (same_area p keep near n rest r base segments)

other_kept : (p : Point) (keep : Edge → Bool) (near : KeepsNear p keep) (n : ℕ) (rest : List Edge)
    (r : Bool) (x : Segment) (segments : List Segment) (s : Standing) (b : Bool) → Later p n rest r
    → is_one_area s.area (Some n) ≡ false → keep (tagged_edge (Some n) x) ≡ b
    → has_inside p s (filter keep (tagged (Some n) segments) ++ rest)
    ≡ (is_inside s || (inside_with p no_edges segments || r))
    → has_inside p s (filter keep (tagged (Some n) (x ∷ segments)) ++ rest)
    ≡ (is_inside s || (inside_with p no_edges (x ∷ segments) || r))
other_kept p keep near n rest r x segments s true base other k later =
    rw k (
    next_other p s (tagged_edge (Some n) x) (filter keep (tagged (Some n) segments) ++ rest) other
    ∙ ap (λ b. is_inside s || b)
    (same_area p keep near n rest r base segments (with_edge p no_edges (tagged_edge (Some n) x))
    refl ∙ ap (λ b. b || r) (one_more p no_edges (tagged_edge (Some n) x) segments))
    )
other_kept p keep near n rest r x segments s false base other k later =
    rw k (later ∙ ap (λ b. is_inside s || (b || r))
    (far_off p keep near no_edges (tagged_edge (Some n) x) segments k))

-- the edges of the polygon n, after those of another
other_area : (p : Point) (keep : Edge → Bool) (near : KeepsNear p keep) (n : ℕ) (rest : List Edge)
    (r : Bool) (s : Standing) → Later p n rest r → is_one_area s.area (Some n) ≡ false
    → has_inside p s rest ≡ (is_inside s || r) → (segments : List Segment)
    → has_inside p s (filter keep (tagged (Some n) segments) ++ rest)
    ≡ (is_inside s || (inside_with p no_edges segments || r))
other_area p keep near n rest r s base other before [] = before
other_area p keep near n rest r s base other before (x ∷ segments) =
    other_kept p keep near n rest r x segments s (keep (tagged_edge (Some n) x)) base other refl
    (other_area p keep near n rest r s base other before segments)

-- being on no edge, the point is in the polygon where it crosses an odd number of edges
apart_is : (on odd : Bool) → (odd && not on) ≡ ((on || odd) && not on)
apart_is true odd = never odd
apart_is false odd = refl

inside_areas : (p : Point) (keep : Edge → Bool) (near : KeepsNear p keep)
    (areas : List (List (List Point))) (n : ℕ) (s : Standing) → IsFresh s.area n
    → has_inside p s (filter keep (area_edges n areas))
    ≡ (is_inside s || list_any (meeting.is_inside p) areas)
inside_areas p keep near [] n s new = or_false (is_inside s)
inside_areas p keep near (rings ∷ areas) n s new =
    let Next : Option ℕ → Type 0 = λ a. IsFresh a (suc n) in
    ap (has_inside p s)
    (filter-append keep (tagged (Some n) (edges_between_all rings)) (area_edges (suc n) areas))
    ∙ other_area p keep near n (filter keep (area_edges (suc n) areas))
    (list_any (meeting.is_inside p) areas) s
    (λ t is. inside_areas p keep near areas (suc n) t (subst Next (sym is) (fresh_next n)))
    (new.fresh n (omega arith))
    (inside_areas p keep near areas (suc n) s (fresh_later s.area n new))
    (edges_between_all rings)
    ∙ ap (λ b. is_inside s || (b || list_any (meeting.is_inside p) areas))
    (apart_is (on_some p (edges_between_all rings)) (crosses_oddly p (edges_between_all rings)))

-- the point is within the polygons exactly where the edges that are kept say so
pub within_is : (p : Point) (keep : Edge → Bool) → KeepsNear p keep
    → (areas : List (List (List Point)))
    → has_inside p no_edges (filter keep (area_edges 0 areas))
    ≡ list_any (meeting.is_inside p) areas
within_is p keep near areas =
    inside_areas p keep near areas 0 no_edges (record { fresh = λ m h. refl })
