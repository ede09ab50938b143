-- How the keys of an index are laid out.
use Rattle.std.specs.Prelude.{◌≡◌, ℕ, ℤ, Bool, true, List, [], ◌++◌, ◌≤◌, length, take, drop}
use Rattle.std.specs.Prelude.{FitsSigned, Option, Some}
use Rattle.std.specs.Int.{w32, w64}
use Rattle.gm_base.specs.Identifier.{is_identifier}
use Rattle.gm_calendar.specs.Instant.{IsInstant}
use Rattle.gm_types.specs.declared.index.IndexKind.{IndexKind}
use Rattle.gm_types.specs.declared.index.IndexKind.TheVariants.{Id, Z2, Z3, Xz2, Xz3, Attr}
use Rattle.gm_types.specs.declared.kind.Kind.{Kind}
use Rattle.gm_types.specs.declared.kind.Kind.TheVariants as kind
use Rattle.gm_types.specs.Specification.{Specification, kind_at}
use Rattle.gm_lexi.specs.Lexicode.{int_bytes, long_bytes, date_bytes, bool_bytes, text_bytes}
use Rattle.gm_lexi.specs.Lexicode.{IsLexicalText}
use Rattle.gm_keys.specs.Key.{prefix_of}

-- the lexicoded form of some value of a kind
abbrev pub IsForm : Option Kind → List ℕ → Type 0
IsForm (Some kind.Text) form = (text : List ℕ) × IsLexicalText text × (form ≡ text_bytes text)
IsForm (Some kind.Integer) form = (whole : ℤ) × FitsSigned w32 whole × (form ≡ int_bytes whole)
IsForm (Some kind.Long) form = (whole : ℤ) × FitsSigned w64 whole × (form ≡ long_bytes whole)
IsForm (Some kind.Boolean) form = (truth : Bool) × (form ≡ bool_bytes truth)
IsForm (Some kind.Date) form = (at : ℤ) × IsInstant at × (form ≡ date_bytes at)
IsForm _ form = ⊥

-- the bytes begin with a form of that length
abbrev pub IsFormAt : Option Kind → List ℕ → ℕ → Type 0
IsFormAt kind bytes size = (size ≤ length bytes) × IsForm kind (take size bytes)

-- what stands between the prefix and the identifier: nothing, a shard and a code, a shard, a bin
-- and a code, or a form
abbrev pub IsMiddle : Specification → IndexKind → List ℕ → Type 0
IsMiddle t Id middle = middle ≡ []
IsMiddle t Z2 middle = length middle ≡ 9
IsMiddle t Z3 middle = length middle ≡ 11
IsMiddle t Xz2 middle = length middle ≡ 9
IsMiddle t Xz3 middle = length middle ≡ 11
IsMiddle t (Attr attribute) middle = IsForm (kind_at t attribute) middle

-- the key is laid out as one of the index, with this middle and this identifier
pub record IsLaidOut (t : Specification) (index : IndexKind) (key middle id : List ℕ) : Type 0 where
  pub parts : key ≡ prefix_of t index ++ (middle ++ id)
  pub middle_is : IsMiddle t index middle
  pub identifier : is_identifier id ≡ true

-- where the identifier begins, and where it ends
abbrev pub IsIdAt : Specification → IndexKind → List ℕ → ℕ × ℕ → Type 0
IsIdAt t index key at =
    (at.1 ≡ length key) × ((middle : List ℕ) × IsLaidOut t index key middle (drop at.0 key))
