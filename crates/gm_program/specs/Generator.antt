-- A script made by a seed: a type, so many features, and counts of them.
use Rattle.std.specs.Prelude.{ℕ, zero, suc, ◌+◌, ◌*◌, ◌/◌, ◌%◌, ◌^◌, ℤ, pos, ◌-ℤ◌, List, [], ◌∷◌}
use Rattle.std.specs.Prelude.{◌++◌, codes}
use Rattle.std.specs.Fmt.{decimal}
use Rattle.gm_geom.specs.Validity.{longitude_limit, latitude_limit}
use Rattle.gm_base.specs.Ascii.{line_feed}
use Rattle.gm_calendar.specs.Instant.{second_ms}
use Rattle.gm_calendar.specs.Spelling.{instant_text}
use Rattle.gm_geom.specs.Number.{fixed_text}

-- ---- draws

abbrev pub multiplier : ℕ
multiplier = 6364136223846793005

abbrev pub increment : ℕ
increment = 1442695040888963407

-- the state behind a draw (a linear congruential generator with Knuth's multiplier)
abbrev pub next : ℕ → ℕ
next state = (state * multiplier + increment) % 2 ^ 64

-- the number below n that a state gives
abbrev pub drawn : ℕ → ℕ → ℕ
drawn n state = (state / 2 ^ 32) % n

-- the state behind so many draws
abbrev pub behind : ℕ → ℕ → ℕ
behind zero state = state
behind (suc n) state = behind n (next state)

-- ---- lines

abbrev pub line : List ℕ → List ℕ
line text = text ++ line_feed ∷ []

-- the start of 2020, in milliseconds since 1970, and how many seconds of that year are drawn from
abbrev pub start_of_2020 : ℕ
start_of_2020 = 1577836800000

abbrev pub seconds_of_2020 : ℕ
seconds_of_2020 = 31536000

-- in milliseconds since 1970
abbrev pub second_of_2020 : ℕ → ℤ
second_of_2020 second = pos (start_of_2020 + second_ms * second)

-- a coordinate that is counted from the least, counted from the middle
abbrev pub centred : ℕ → ℕ → ℤ
centred half coordinate = pos coordinate -ℤ pos half

abbrev pub place_text : ℕ → ℕ → List ℕ
place_text x y =
    codes ",POINT ("
    ++ (fixed_text (centred longitude_limit x)
    ++ (codes " " ++ (fixed_text (centred latitude_limit y) ++ line (codes ")"))))

-- how many longitudes and latitudes there are
abbrev pub longitudes : ℕ
longitudes = 2 * longitude_limit + 1

abbrev pub latitudes : ℕ
latitudes = 2 * latitude_limit + 1

-- the feature with this number: a name, a number, a second of 2020 and a place, drawn in this order
unfoldable pub put_line : ℕ → ℕ → List ℕ
put_line feature_number state =
    codes "put gen g" ++ (decimal feature_number
    ++ (codes ",n" ++ (decimal (drawn 100 (behind 1 state))
    ++ (codes "," ++ (decimal (drawn 1000 (behind 2 state))
    ++ (codes "," ++ (instant_text (second_of_2020 (drawn seconds_of_2020 (behind 3 state)))
    ++ place_text (drawn longitudes (behind 4 state)) (drawn latitudes (behind 5 state)))))))))

-- so many features, the first with this number
abbrev pub put_lines : ℕ → ℕ → ℕ → List ℕ
put_lines zero feature_number state = []
put_lines (suc count) feature_number state =
    put_line feature_number state ++ put_lines count (feature_number + 1) (behind 5 state)

abbrev pub first_line : List ℕ
first_line = line (codes "create gen name:String:index=true,n:Integer,dtg:Date,*geom:Point")

-- the part that stores: the type and its features
unfoldable pub loading : ℕ → ℕ → List ℕ
loading seed count = first_line ++ put_lines count 1 seed

-- the part that asks
abbrev pub counting : List ℕ
counting = line (codes "count gen BBOX(geom,-10,-10,10,10)")
    ++ (line (codes "count gen index=id BBOX(geom,-10,-10,10,10)")
    ++ (line (codes "count gen target=1 BBOX(geom,-10,-10,10,10)")
    ++ (line (codes
    "count gen BBOX(geom,-90,-45,90,45) AND dtg DURING 2020-03-01T00:00:00Z/2020-04-01T00:00:00Z")
    ++ (line (codes "count gen name = 'n7'")
    ++ (line (codes "count gen name = 'n7' OR IN ('g1','g2')")
    ++ line (codes "count gen n < 10"))))))

unfoldable pub generated_script : ℕ → ℕ → List ℕ
generated_script seed count = loading seed count ++ counting
