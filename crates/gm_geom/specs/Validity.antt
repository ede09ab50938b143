-- Which geometries are kept, and what is wrong with the others.
use Rattle.std.specs.Prelude.{ℕ, ◌&&◌, ◌||◌, Bool, true, false, not, nat_lt, nat_le, if◌then◌else◌}
use Rattle.std.specs.Prelude.{ℤ, pos, negsuc, List, [], ◌∷◌, length, Option, None, Some}
use Rattle.std.specs.List.{list_all, list_any}
use Rattle.std.specs.Ordering.{int_eq}
use Rattle.gm_geom.specs.declared.point.Point.{Point}
use Rattle.gm_geom.specs.declared.geometry.Geometry.{Geometry}
use Rattle.gm_geom.specs.declared.geometry.Geometry.TheVariants as geo
use Rattle.gm_geom.specs.declared.validity.GeomFault.{GeomFault}
use Rattle.gm_geom.specs.declared.validity.GeomFault.TheVariants.{Many, Range, Short, Ring}
use Rattle.gm_geom.specs.Geometry.{points_of, lines_of, rings_of}

-- the most points of a geometry
abbrev pub point_limit : ℕ
point_limit = 10000

-- the degrees of longitude and of latitude on either side, in units
abbrev pub longitude_limit : ℕ
longitude_limit = 1800000000

abbrev pub latitude_limit : ℕ
latitude_limit = 900000000

-- the fewest points of a ring
abbrev pub ring_least : ℕ
ring_least = 4

-- whether z lies from -n to n
abbrev pub is_within : ℕ → ℤ → Bool
is_within n (pos m) = nat_le m n
is_within n (negsuc m) = nat_lt m n

-- 180 degrees of longitude and 90 of latitude on either side
abbrev pub is_in_world : Point → Bool
is_in_world p = is_within longitude_limit p.x && is_within latitude_limit p.y

abbrev pub is_empty : {X : Type 0} → List X → Bool
is_empty [] = true
is_empty (x ∷ xs) = false

-- the list or one of its lists is empty
abbrev pub is_hollow : {X : Type 0} → List (List X) → Bool
is_hollow xss = is_empty xss || list_any is_empty xss

-- a list of the geometry is empty
abbrev pub has_empty_list : Geometry → Bool
has_empty_list (geo.Point p) = false
has_empty_list (geo.Line points) = is_empty points
has_empty_list (geo.Area rings) = is_hollow rings
has_empty_list (geo.ManyPoints points) = is_empty points
has_empty_list (geo.ManyLines lines) = is_hollow lines
has_empty_list (geo.ManyAreas areas) = is_empty areas || list_any is_hollow areas

abbrev pub has_one_point : List Point → Bool
has_one_point points = nat_lt (length points) 2

-- the last point of a ring that begins with p
abbrev pub last_after : Point → List Point → Point
last_after p [] = p
last_after p (q ∷ points) = last_after q points

abbrev pub is_same : Point → Point → Bool
is_same p q = int_eq p.x q.x && int_eq p.y q.y

-- at least four points, the last of them the first
abbrev pub is_closed : List Point → Bool
is_closed [] = false
is_closed (p ∷ points) =
    nat_le ring_least (length (p ∷ points)) && is_same p (last_after p points)

-- what is wrong first, if anything is
abbrev pub fault_of : Geometry → Option GeomFault
fault_of geometry =
    if nat_lt point_limit (length (points_of geometry)) then Some Many
    else (if not (list_all is_in_world (points_of geometry)) then Some Range
    else (if has_empty_list geometry || list_any has_one_point (lines_of geometry) then Some Short
    else (if not (list_all is_closed (rings_of geometry)) then Some Ring
    else None)))
