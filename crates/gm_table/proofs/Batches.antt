-- Batches whose keys differ, at a key.
use Rattle.std.proofs.Common.{◌≡◌, ◌∙◌, ◌||◌, ◌&&◌, not, ℕ, Bool, true, false, List, [], ◌∷◌, ◌++◌}
use Rattle.std.proofs.Common.{map, Option, Some, refl, ap}
use Rattle.std.specs.Prelude.{if◌then◌else◌}
use Rattle.gm_base.proofs.Booleans.{neither_of}
use Rattle.gm_table.specs.declared.row.Row.{Row}
use Rattle.gm_table.specs.Row.{key_of}
use Rattle.gm_table.specs.Batch.{has_key, are_distinct, put_at}
use Rattle.gm_table.proofs.Keys.{itself, turned}

each : (a b : Bool) → (not a && b) ≡ true → (a ≡ false) × (b ≡ true)
each true b both = cc
each false b both = (refl, both)

-- a key that is none of two lists is none of either
pub has_key-append : (key : List ℕ) (front back : List (List ℕ))
    → has_key key (front ++ back) ≡ false → (has_key key front ≡ false) × (has_key key back ≡ false)
has_key-append key [] back none = (refl, none)
has_key-append key (other ∷ front) back none =
    let here = neither_of _ _ none in
    let rest = has_key-append key front back here.1 in
    (ap (λ b. b || has_key key front) here.0 ∙ rest.0, rest.1)

-- where no two keys are equal, one is none of those before it and none of those after it
pub distinct_middle : (front : List (List ℕ)) (key : List ℕ) (back : List (List ℕ))
    → are_distinct (front ++ key ∷ back) ≡ true
    → (has_key key front ≡ false) × (has_key key back ≡ false)
distinct_middle [] key back distinct = (refl, (each _ _ distinct).0)
distinct_middle (other ∷ front) key back distinct =
    let here = each _ _ distinct in
    let rest = distinct_middle front key back here.1 in
    let apart = neither_of _ _ (has_key-append other front (key ∷ back) here.0).1 in
    (ap (λ b. b || has_key key front) (turned key other ∙ apart.0) ∙ rest.0, rest.1)

pub map-middle : (front : List Row) (row : Row) (back : List Row)
    → map key_of (front ++ row ∷ back) ≡ map key_of front ++ row.key ∷ map key_of back
map-middle [] row back = refl
map-middle (first ∷ front) row back = ap (λ keys. first.key ∷ keys) (map-middle front row back)

-- a key that no row has keeps what it had
pub put_at-other : (key : List ℕ) (puts : List Row) (before : Option (List ℕ))
    → has_key key (map key_of puts) ≡ false → put_at key puts before ≡ before
put_at-other key [] before none = refl
put_at-other key (put ∷ puts) before none =
    let apart = neither_of _ _ none in
    ap (λ b. put_at key puts (if b then Some put.bytes else before)) apart.0
    ∙ put_at-other key puts before apart.1

pub put_at-there : (front : List Row) (row : Row) (back : List Row) (before : Option (List ℕ))
    → has_key row.key (map key_of back) ≡ false
    → put_at row.key (front ++ row ∷ back) before ≡ Some row.bytes
put_at-there [] row back before none =
    ap (λ b. put_at row.key back (if b then Some row.bytes else before)) (itself row.key)
    ∙ put_at-other row.key back (Some row.bytes) none
put_at-there (first ∷ front) row back before none = put_at-there front row back _ none
