-- Lists joined end to end, and the last of a list.
use Rattle.std.proofs.Common.{◌≡◌, ℕ, ◌-◌, ◌<◌, ◌≤◌, leb as nat_le, le-leb, Bool, true, false, ◌&&◌}
use Rattle.std.proofs.Common.{List, [], ◌∷◌, length, get_or, refl, sym, ap, ◌∙◌, arith}
use Rattle.std.specs.List.{list_all}
use Rattle.std.proofs.lemmas.List.Folds.{list_all_at, list_all-append}
use Rattle.gm_geom.specs.declared.point.Point.{Point}
use Rattle.gm_geom.specs.Geometry.{joined}
use Rattle.gm_geom.specs.Validity.{last_after, is_closed, is_same}

-- a test of each element of joined lists
pub list_all-joined : {X : Type 0} (test : X → Bool) (xss : List (List X))
    → list_all test (joined xss) ≡ list_all (λ xs. list_all test xs) xss
list_all-joined test [] = refl
list_all-joined test (xs ∷ xss) =
    list_all-append test xs (joined xss)
    ∙ ap (λ b. list_all test xs && b) (list_all-joined test xss)

-- a list that fails makes the whole fail
pub fails_in : {X : Type 0} (test : X → Bool) (xss : List (List X)) (i : ℕ) (d : List X)
    → i < length xss → list_all test (get_or xss i d) ≡ false → list_all test (joined xss) ≡ false
fails_in test xss i d below fails =
    list_all-joined test xss ∙ list_all_at (λ xs. list_all test xs) xss i d below fails

-- a list of lists that fails makes the whole fail
pub fails_in_two : {X : Type 0} (test : X → Bool) (xsss : List (List (List X))) (i : ℕ)
    (d : List (List X)) → i < length xsss → list_all test (joined (get_or xsss i d)) ≡ false
    → list_all test (joined (joined xsss)) ≡ false
fails_in_two test xsss i d below fails =
    list_all-joined test (joined xsss)
    ∙ fails_in (λ xs. list_all test xs) xsss i d below
    (sym (list_all-joined test (get_or xsss i d)) ∙ fails)

-- the last element of a list that begins with p
pub last_after_is : (p : Point) (ps : List Point) (d : Point)
    → get_or (p ∷ ps) (length ps) d ≡ last_after p ps
last_after_is p [] d = refl
last_after_is p (q ∷ ps) d = last_after_is q ps d

-- a ring of at least four points is closed where its ends are the same
pub closed_by_ends : (ring : List Point) (d : Point) → 4 ≤ length ring
    → is_same (get_or ring 0 d) (get_or ring (length ring - 1) d) ≡ is_closed ring
closed_by_ends [] d long = absurd (omega arith)
closed_by_ends (p ∷ ps) d long =
    let e : length (p ∷ ps) - 1 ≡ length ps = omega arith in
    let t : nat_le 4 (length (p ∷ ps)) ≡ true = le-leb _ _ long in
    ap (λ n. is_same p (get_or (p ∷ ps) n d)) e ∙ ap (λ q. is_same p q) (last_after_is p ps d)
    ∙ sym (ap (λ b. b && is_same p (last_after p ps)) t)
