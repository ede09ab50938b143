-- The keys of a feature: one in each index of its type that has what it needs.
use Rattle.std.specs.Prelude.{ℕ, ◌%◌, List, [], ◌∷◌, ◌++◌, filter_map, Option, Some, None}
use Rattle.std.specs.Prelude.{option_map, option_and_then, option_to_list, if◌then◌else◌}
use Rattle.byteorder.specs.Endian.{big_bytes}
use Rattle.gm_base.specs.Hash.{fnv1a_of}
use Rattle.gm_types.specs.declared.index.IndexKind.{IndexKind}
use Rattle.gm_types.specs.declared.index.IndexKind.TheVariants.{Id, Z2, Z3, Xz2, Xz3, Attr}
use Rattle.gm_types.specs.Index.{has_index, enabled_indexes}
use Rattle.gm_types.specs.Specification.{Specification, period_of, shards_of, z2_bits_of}
use Rattle.gm_types.specs.Specification.{z3_bits_of, precision_of}
use Rattle.gm_feature.specs.declared.feature.Feature.{Feature}
use Rattle.gm_feature.specs.declared.value.Value.{Value}
use Rattle.gm_feature.specs.declared.value.Value.TheVariants as value
use Rattle.gm_feature.specs.Feature.{value_at}
use Rattle.gm_lexi.specs.Lexicode.{int_bytes, long_bytes, date_bytes, bool_bytes, text_bytes}
use Rattle.gm_keys.specs.Cell.{z2_code, z3_code, xz2_code, xz3_code}
use Rattle.gm_keys.specs.Whereabouts.{point_in, box_in, bin_in}

-- the number of an index
abbrev pub index_number : IndexKind → ℕ
index_number Id = 0
index_number Z2 = 1
index_number Z3 = 2
index_number Xz2 = 3
index_number Xz3 = 4
index_number (Attr attribute) = 5

-- that of an attribute, where the index has one
abbrev pub attribute_number : IndexKind → List ℕ
attribute_number (Attr attribute) = big_bytes 2 attribute
attribute_number _ = []

-- the prefix of all keys of an index: the type's number, the index number, and the attribute's
-- number
unfoldable pub prefix_of : Specification → IndexKind → List ℕ
prefix_of t kind = big_bytes 2 t.number ++ (index_number kind ∷ attribute_number kind)

-- which of its shards a type keeps an identifier in
unfoldable pub shard_of : Specification → List ℕ → ℕ
shard_of t id = fnv1a_of id % shards_of t

-- a prefix, a shard and a code
unfoldable pub code_front : List ℕ → ℕ → ℕ → List ℕ
code_front prefix shard code = prefix ++ (shard ∷ big_bytes 8 code)

-- a prefix, a shard and a bin
unfoldable pub bin_front : List ℕ → ℕ → ℕ → List ℕ
bin_front prefix shard bin = prefix ++ (shard ∷ big_bytes 2 bin)

-- a prefix, a shard, a bin and a code
unfoldable pub bin_code_front : List ℕ → ℕ → ℕ → ℕ → List ℕ
bin_code_front prefix shard bin code = prefix ++ (shard ∷ (big_bytes 2 bin ++ big_bytes 8 code))

-- the lexicoded form of a value, if it has one
abbrev pub form_of : Value → Option (List ℕ)
form_of value.Null = None
form_of (value.Text text) = Some (text_bytes text)
form_of (value.Integer whole) = Some (int_bytes whole)
form_of (value.Long whole) = Some (long_bytes whole)
form_of (value.Boolean truth) = Some (bool_bytes truth)
form_of (value.Date at) = Some (date_bytes at)
form_of (value.Geo geometry) = None

-- the key in the index of an attribute, by the value of the attribute
abbrev pub value_key : Specification → ℕ → List ℕ → Value → Option (List ℕ)
value_key t attribute id v =
    option_map (λ form. (prefix_of t (Attr attribute) ++ form) ++ id) (form_of v)

-- what stands in a key before the identifier
unfoldable pub front_of : Specification → IndexKind → Feature → Option (List ℕ)
front_of t Id feature = Some (prefix_of t Id)
front_of t Z2 feature =
    option_map (λ point. code_front (prefix_of t Z2) (shard_of t feature.id)
    (z2_code (z2_bits_of t) point)) (point_in t feature)
front_of t Z3 feature =
    option_and_then
    (λ point. option_map
    (λ bin. bin_code_front (prefix_of t Z3) (shard_of t feature.id) bin.number
    (z3_code (period_of t) (z3_bits_of t) point bin.offset)) (bin_in t feature))
    (point_in t feature)
front_of t Xz2 feature =
    option_map (λ box. code_front (prefix_of t Xz2) (shard_of t feature.id)
    (xz2_code (precision_of t) box)) (box_in t feature)
front_of t Xz3 feature =
    option_and_then
    (λ box. option_map
    (λ bin. bin_code_front (prefix_of t Xz3) (shard_of t feature.id) bin.number
    (xz3_code (period_of t) (precision_of t) box bin.offset)) (bin_in t feature)) (box_in t feature)
front_of t (Attr attribute) feature =
    option_map (λ form. prefix_of t (Attr attribute) ++ form) (form_of (value_at feature attribute))

-- the key in an index, or none where a value that the index needs is null
abbrev pub key_of : Specification → IndexKind → Feature → Option (List ℕ)
key_of t kind feature = option_map (λ front. front ++ feature.id) (front_of t kind feature)

-- the key in an index, where the type has it
abbrev pub keys_in : Specification → IndexKind → Feature → List (List ℕ)
keys_in t kind feature = if has_index t kind then option_to_list (key_of t kind feature) else []

-- the keys in all enabled indexes, in the order of these
abbrev pub keys_of : Specification → Feature → List (List ℕ)
keys_of t feature = filter_map (λ kind. key_of t kind feature) (enabled_indexes t)

-- the key in the index `id` of a feature with that identifier
abbrev pub id_key : Specification → List ℕ → List ℕ
id_key t id = prefix_of t Id ++ id
