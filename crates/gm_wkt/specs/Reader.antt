-- Reading as functions on lists, where no memory is taken.
use Rattle.std.specs.Prelude.{◌≡◌, ◌==◌, ◌&&◌, ℕ, Bool, true, false, if◌then◌else◌, ℤ, List, []}
use Rattle.std.specs.Prelude.{◌∷◌, ◌++◌, take, drop, Option, Some, None, option_map}
use Rattle.std.specs.Prelude.{option_and_then}
use Rattle.std.specs.List.{prefix_len}
use Rattle.gm_geom.specs.declared.point.Point.{Point}
use Rattle.gm_geom.specs.Number.{is_number_byte}
use Rattle.gm_wkt.specs.Grammar.{coordinate_of, SpellsPosition}
use Rattle.gm_base.specs.Ascii.{comma, opening, closing, is_blank}
use Rattle.gm_wkt.specs.Grammar.{SpellsLoose, SpellsMember}
use Rattle.gm_wkt.specs.declared.halt.Halt.{Halt}
use Rattle.gm_wkt.specs.declared.halt.Halt.TheVariants.{Syntax, NoMemory}

-- what follows the blanks at the front
abbrev pub skip_blanks : List ℕ → List ℕ
skip_blanks bytes = drop (prefix_len is_blank bytes) bytes

-- what follows a byte, where it stands first
abbrev pub behind : ℕ → List ℕ → Option (List ℕ)
behind b [] = None
behind b (c ∷ bytes) = if c == b then Some bytes else None

-- the number that the longest run of bytes of numbers spells, and what follows it
abbrev pub number_run : List ℕ → ℕ
number_run bytes = prefix_len is_number_byte bytes

abbrev pub number_at : List ℕ → Option (ℤ × List ℕ)
number_at bytes =
    option_map (λ z. (z, drop (number_run bytes) bytes))
    (coordinate_of (take (number_run bytes) bytes))

abbrev pub begins_blank : List ℕ → Bool
begins_blank [] = false
begins_blank (b ∷ bytes) = is_blank b

abbrev pub second_at : ℤ → List ℕ → Option (Point × List ℕ)
second_at x bytes =
    if begins_blank bytes
    then option_map (λ n. (record { x = x; y = n.0 }, n.1)) (number_at (skip_blanks bytes))
    else None

abbrev pub position_at : List ℕ → Option (Point × List ℕ)
position_at bytes = option_and_then (λ n. second_at n.0 n.1) (number_at bytes)

abbrev pub closed_at : Point → List ℕ → Option (Point × List ℕ)
closed_at p bytes = option_map (λ rest. (p, rest)) (behind closing (skip_blanks bytes))

abbrev pub lone_inside : List ℕ → Option (Point × List ℕ)
lone_inside bytes = option_and_then (λ n. closed_at n.0 n.1) (position_at (skip_blanks bytes))

abbrev pub lone_at : List ℕ → Option (Point × List ℕ)
lone_at bytes = option_and_then lone_inside (behind opening bytes)

abbrev pub opens : List ℕ → Bool
opens [] = false
opens (b ∷ bytes) = b == opening

abbrev pub point_at : Bool → List ℕ → Option (Point × List ℕ)
point_at loose bytes = if loose && opens bytes then lone_at bytes else position_at bytes

-- a position, or one whose brackets may be left out
abbrev pub SpellsPoint : Bool → List ℕ → Point → Type 0
SpellsPoint true bytes p = SpellsLoose bytes p
SpellsPoint false bytes p = SpellsPosition bytes p

-- the first byte is no blank
abbrev pub Starts : List ℕ → Type 0
Starts [] = ⊥
Starts (b ∷ bytes) = is_blank b ≡ false

-- the first byte, if there is one, fails the test
abbrev pub Stops : (ℕ → Bool) → List ℕ → Type 0
Stops test [] = Unit {0}
Stops test (b ∷ bytes) = test b ≡ false

-- the first byte, if there is one, ends a number
abbrev pub Ends : List ℕ → Type 0
Ends bytes = Stops is_number_byte bytes

abbrev pub OnlyMemory : Halt → Type 0
OnlyMemory Syntax = ⊥
OnlyMemory NoMemory = Unit {0}

-- what is read stands at the front
pub record Takes
    {A : Type 0} (Item : List ℕ → A → Type 0) (text : List ℕ) (x : A) (rest : List ℕ) : Type 0 where
  pub front : List ℕ
  pub spells : Item front x
  pub written : text ≡ front ++ rest

-- the comma, or the closing bracket, behind blanks, and what follows it
abbrev pub separator : Bool → ℕ
separator true = comma
separator false = closing

abbrev pub separator_first : List ℕ → Option (Bool × List ℕ)
separator_first [] = None
separator_first (b ∷ bytes) =
    if b == comma then Some (true, bytes)
    else (if b == closing then Some (false, bytes) else None)

abbrev pub separator_at : List ℕ → Option (Bool × List ℕ)
separator_at bytes = separator_first (skip_blanks bytes)

-- members up to a closing bracket, and what follows it
abbrev pub UpTo : {A : Type 0} → (List ℕ → A → Type 0) → List ℕ → List A → List ℕ → Type 0
UpTo Item text [] tail = ⊥
UpTo Item text (x ∷ []) tail = SpellsMember Item text x (closing ∷ tail)
UpTo Item text (x ∷ y ∷ xs) tail =
    (rest : List ℕ) × SpellsMember Item text x (comma ∷ rest) × UpTo Item rest (y ∷ xs) tail
