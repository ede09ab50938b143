-- Attributes: their options, and what these say.
use Rattle.std.specs.Prelude.{ℕ, Bool, true, false, not, ◌&&◌, ◌||◌, if◌then◌else◌, List, map, find}
use Rattle.std.specs.Prelude.{codes, Option, Some, None, option_map}
use Rattle.std.specs.List.{list_all}
use Rattle.gm_types.specs.declared.attribute.Attribute.{Attribute}
use Rattle.gm_types.specs.declared.attribute.AttributeOption.{AttributeOption}
use Rattle.gm_types.specs.declared.kind.Kind.{Kind}
use Rattle.gm_types.specs.Kind.{is_geometry}
use Rattle.gm_types.specs.Words.{same_text, is_name, is_key, is_bare, are_distinct}

-- the value that is given to a key
unfoldable pub option_value : List ℕ → List AttributeOption → Option (List ℕ)
option_value key options =
    option_map (λ option. option.value) (find (λ option. same_text option.key key) options)

abbrev pub is_given : List ℕ → Option (List ℕ) → Bool
is_given value None = false
is_given value (Some given) = same_text given value

-- an option has that value
abbrev pub has_option : List ℕ → List ℕ → List AttributeOption → Bool
has_option key value options = is_given value (option_value key options)

-- the options ask for an index
abbrev pub asks_index : List AttributeOption → Bool
asks_index options =
    has_option (codes "index") (codes "true") options
    || has_option (codes "index") (codes "full") options

-- an attribute of that kind with those options is indexed by its values: it is asked for, and there
-- is no geometry
abbrev pub is_indexed : Kind → List AttributeOption → Bool
is_indexed kind options = not (is_geometry kind) && asks_index options

-- the options speak of high cardinality
abbrev pub is_high : List AttributeOption → Bool
is_high options = has_option (codes "cardinality") (codes "high") options

abbrev pub is_index_value : List ℕ → Bool
is_index_value value =
    same_text value (codes "true") || same_text value (codes "full")
    || same_text value (codes "false")

abbrev pub is_cardinality : List ℕ → Bool
is_cardinality value = same_text value (codes "high") || same_text value (codes "low")

-- the value is one that a listed key of an option may have; every other key may have any
unfoldable pub may_have : Kind → List ℕ → List ℕ → Bool
may_have kind key value =
    if same_text key (codes "index") then is_index_value value
    else if same_text key (codes "cardinality") then is_cardinality value
    else if same_text key (codes "srid") then is_geometry kind && same_text value (codes "4326")
    else true

abbrev pub is_option : Kind → AttributeOption → Bool
is_option kind option =
    may_have kind option.key option.value && (is_key option.key && is_bare option.value)

abbrev pub option_keys : List AttributeOption → List (List ℕ)
option_keys options = map (λ option. option.key) options

-- a name, and options with distinct keys and values that they may have
abbrev pub is_described : List ℕ → Kind → List AttributeOption → Bool
is_described name kind options =
    is_name name && (list_all (is_option kind) options && are_distinct (option_keys options))

-- the attribute with this name, kind and options
abbrev pub attribute_from : List ℕ → Kind → List AttributeOption → Attribute
attribute_from name kind options =
    record {
      name = name;
      kind = kind;
      indexed = is_indexed kind options;
      high = is_high options;
      options = options;
    }
