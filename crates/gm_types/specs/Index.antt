-- The indexes of a type: which fit, which are enabled, and how they are named.
use Rattle.std.specs.Prelude.{ℕ, zero, suc, ◌+◌, Bool, true, false, not, ◌&&◌, if◌then◌else◌, List}
use Rattle.std.specs.Prelude.{[], ◌∷◌, ◌++◌, length, take, drop, filter, find, codes, position}
use Rattle.std.specs.Prelude.{slice_get, Option, Some, None, is_some, option_map}
use Rattle.std.specs.List.{list_any}
use Rattle.std.specs.Option.{option_map_or}
use Rattle.gm_base.specs.Ascii.{comma}
use Rattle.gm_types.specs.declared.attribute.Attribute.{Attribute}
use Rattle.gm_types.specs.declared.index.IndexKind.{IndexKind}
use Rattle.gm_types.specs.declared.index.IndexKind.TheVariants.{Id, Z2, Z3, Xz2, Xz3, Attr}
use Rattle.gm_types.specs.declared.kind.GeoKind.{GeoKind}
use Rattle.gm_types.specs.Kind.{is_point}
use Rattle.gm_types.specs.Parts.{parts_of}
use Rattle.gm_types.specs.Specification.{Specification, default_date_of, default_shape_of}
use Rattle.gm_types.specs.Specification.{setting_of}
use Rattle.gm_types.specs.Words.{same_text}

abbrev pub has_date : Specification → Bool
has_date t = is_some (default_date_of t)

abbrev pub is_point_shape : Option GeoKind → Bool
is_point_shape None = false
is_point_shape (Some shape) = is_point shape

abbrev pub is_other_shape : Option GeoKind → Bool
is_other_shape None = false
is_other_shape (Some shape) = not (is_point shape)

abbrev pub is_indexed_one : Option Attribute → Bool
is_indexed_one None = false
is_indexed_one (Some attribute) = attribute.indexed

-- which indexes fit: `id` always, `z2` where the default geometry is a Point, `xz2` where it is of
-- another kind, `z3` and `xz3` where besides there is a default date, and that of an attribute
-- where the attribute is indexed
abbrev pub fits_index : Specification → IndexKind → Bool
fits_index t Id = true
fits_index t Z2 = is_point_shape (default_shape_of t)
fits_index t Z3 = is_point_shape (default_shape_of t) && has_date t
fits_index t Xz2 = is_other_shape (default_shape_of t)
fits_index t Xz3 = is_other_shape (default_shape_of t) && has_date t
fits_index t (Attr attribute) = is_indexed_one (slice_get t.attributes attribute)

-- the members of a list by commas
abbrev pub members_of : List ℕ → List (List ℕ)
members_of text = parts_of comma text

abbrev pub is_member : List ℕ → List ℕ → Bool
is_member word listed = list_any (same_text word) (members_of listed)

-- the value of `geomesa.indices.enabled`, if there is one
abbrev pub listed_of : Specification → Option (List ℕ)
listed_of t = setting_of t (codes "geomesa.indices.enabled")

-- the word is in the list of enabled indexes, or there is no list
unfoldable pub lists_word : Specification → List ℕ → Bool
lists_word t word = option_map_or (is_member word) (listed_of t) true

-- the index is enabled: it fits, and is listed where there is a list. `id` is enabled also where it
-- is not listed
abbrev pub has_index : Specification → IndexKind → Bool
has_index t Id = true
has_index t Z2 = fits_index t Z2 && lists_word t (codes "z2")
has_index t Z3 = fits_index t Z3 && lists_word t (codes "z3")
has_index t Xz2 = fits_index t Xz2 && lists_word t (codes "xz2")
has_index t Xz3 = fits_index t Xz3 && lists_word t (codes "xz3")
has_index t (Attr attribute) = fits_index t (Attr attribute) && lists_word t (codes "attr")

-- those of that many attributes, from a number on
abbrev pub attribute_indexes : ℕ → ℕ → List IndexKind
attribute_indexes from zero = []
attribute_indexes from (suc count) = Attr from ∷ attribute_indexes (from + 1) count

-- the indexes that a type may have, in their order
abbrev pub all_indexes : Specification → List IndexKind
all_indexes t = Id ∷ Z2 ∷ Z3 ∷ Xz2 ∷ Xz3 ∷ attribute_indexes 0 (length t.attributes)

-- the enabled indexes in their order, each once
unfoldable pub enabled_indexes : Specification → List IndexKind
enabled_indexes t = filter (has_index t) (all_indexes t)

abbrev pub attribute_index_name : Option Attribute → List ℕ
attribute_index_name None = codes "attr:"
attribute_index_name (Some attribute) = codes "attr:" ++ attribute.name

-- how an index is named: `id`, `z2`, `z3`, `xz2`, `xz3`, or `attr:` and the attribute
abbrev pub index_name : Specification → IndexKind → List ℕ
index_name t Id = codes "id"
index_name t Z2 = codes "z2"
index_name t Z3 = codes "z3"
index_name t Xz2 = codes "xz2"
index_name t Xz3 = codes "xz3"
index_name t (Attr attribute) = attribute_index_name (slice_get t.attributes attribute)

-- the enabled index of that name
unfoldable pub index_of_name : Specification → List ℕ → Option IndexKind
index_of_name t name = find (λ kind. same_text name (index_name t kind)) (enabled_indexes t)

-- the index that a name means, where the type has it: behind `attr:` stands the name of an
-- attribute
abbrev pub attribute_meant : List Attribute → List ℕ → Option IndexKind
attribute_meant attributes name =
    if same_text (take 5 name) (codes "attr:")
    then option_map (λ n. Attr n)
    (position (λ attribute. same_text attribute.name (drop 5 name)) attributes)
    else None

abbrev pub index_meant : List Attribute → List ℕ → Option IndexKind
index_meant attributes name =
    if same_text name (codes "id") then Some Id
    else if same_text name (codes "z2") then Some Z2
    else if same_text name (codes "z3") then Some Z3
    else if same_text name (codes "xz2") then Some Xz2
    else if same_text name (codes "xz3") then Some Xz3
    else attribute_meant attributes name

-- an index where it is enabled
abbrev pub index_if : Specification → Option IndexKind → Option IndexKind
index_if t None = None
index_if t (Some kind) = if has_index t kind then Some kind else None
