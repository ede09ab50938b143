-- What is known of the lists of a geometry that is kept.
use Rattle.std.proofs.Common.{◌≡◌, ◌+◌, ◌||◌, ◌<◌, ◌≤◌, ◌^◌, Bool, true, false, if◌then◌else◌, List}
use Rattle.std.proofs.Common.{[], ◌∷◌, ◌++◌, length, Some, None, refl, ap, ◌∙◌, arith}
use Rattle.std.proofs.Common.{length-append}
use Rattle.std.specs.List.{list_any, list_all}
use Rattle.std.proofs.lemmas.Bool.{or_parts, ltb-false, not-false}
use Rattle.std.proofs.lemmas.List.Concat.{flat_map-append}
use Rattle.gm_geom.specs.declared.point.Point.{Point}
use Rattle.gm_geom.specs.declared.geometry.Geometry.{Geometry}
use Rattle.gm_geom.specs.declared.geometry.Geometry.TheVariants as geo
use Rattle.gm_geom.specs.declared.validity.GeomFault.TheVariants.{Many, Range, Short, Ring}
use Rattle.gm_geom.specs.Geometry.{joined, lines_of, rings_of}
use Rattle.gm_geom.specs.Validity.{fault_of, is_empty, is_hollow, has_empty_list, has_one_point}
use Rattle.gm_geom.specs.Validity.{is_closed}

record NoFault (a b c d : Bool) : Type 0 where
  few : a ≡ false
  long : c ≡ false
  closed : d ≡ false

no_fault : (a b c d : Bool)
    → (if a then Some Many
    else (if b then Some Range else (if c then Some Short else (if d then Some Ring else None))))
    ≡ None → NoFault a b c d
no_fault true b c d e = absurd (cc)
no_fault false true c d e = absurd (cc)
no_fault false false true d e = absurd (cc)
no_fault false false false true e = absurd (cc)
no_fault false false false false e = record { few = refl; long = refl; closed = refl }

has_some : (rings : List (List Point)) → is_hollow rings ≡ false → 1 ≤ length (joined rings)
has_some [] e = absurd (cc)
has_some ([] ∷ rings) e = absurd (cc)
has_some ((p ∷ points) ∷ rings) e = omega arith

each_has_some : (areas : List (List (List Point))) → list_any is_hollow areas ≡ false
    → length areas ≤ length (joined (joined areas))
each_has_some [] e = omega arith
each_has_some (rings ∷ areas) e =
    let both : (is_hollow rings ≡ false) × (list_any is_hollow areas ≡ false) = or_parts _ _ e in
    let cut : joined (rings ++ joined areas) ≡ joined rings ++ joined (joined areas) =
    flat_map-append (λ xs. xs) rings (joined areas) in
    let long : length (joined (rings ++ joined areas))
    ≡ length (joined rings) + length (joined (joined areas)) =
    ap length cut ∙ length-append (joined rings) (joined (joined areas)) in
    omega (arith, long, has_some rings both.0, each_has_some areas both.1)

-- a geometry that is kept has fewer polygons than a u32 counts
pub few_areas : (areas : List (List (List Point))) → fault_of (geo.ManyAreas areas) ≡ None
    → length areas < 2 ^ 32
few_areas areas kept =
    let no : NoFault _ _ _ _ = no_fault _ _ _ _ kept in
    let few : length (joined (joined areas)) ≤ 10000 =
    ltb-false 10000 (length (joined (joined areas))) no.few in
    let filled : list_any is_hollow areas ≡ false =
    (or_parts (is_empty areas) (list_any is_hollow areas)
    (or_parts (is_empty areas || list_any is_hollow areas) (list_any has_one_point [])
    no.long).0).1 in
    omega (arith, few, each_has_some areas filled)

pub no_short_line : (geometry : Geometry) → fault_of geometry ≡ None
    → list_any has_one_point (lines_of geometry) ≡ false
no_short_line geometry kept =
    let no : NoFault _ _ _ _ = no_fault _ _ _ _ kept in
    (or_parts (has_empty_list geometry) (list_any has_one_point (lines_of geometry)) no.long).1

pub all_closed : (geometry : Geometry) → fault_of geometry ≡ None
    → list_all is_closed (rings_of geometry) ≡ true
all_closed geometry kept =
    let no : NoFault _ _ _ _ = no_fault _ _ _ _ kept in
    not-false (list_all is_closed (rings_of geometry)) no.closed
