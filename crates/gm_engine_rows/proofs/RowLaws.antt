-- What stands at each key of the rows of a state.
use Rattle.std.proofs.Common.{◌≡◌, ◌<◌, ℕ, zero, suc, ◌+◌, true, true≢false, inl, inr, ⊎_elim, List}
use Rattle.std.proofs.Common.{[], ◌∷◌, length, Some, refl, sym, ap, subst, ◌∙◌, arith}
use Rattle.std.specs.Prelude.{slice_get}
use Rattle.std.specs.Ordering.{nat_cmp}
use Rattle.std.specs.Cmp.Lexicographic.{slice_cmp, nat_list_cmp_total}
use Rattle.std.specs.FinMap as features
use Rattle.std.specs.FinMap.{find, get-entries, get-from_entries, entries_sorted}
use Rattle.gm_base.proofs.Options.{same_some}
use Rattle.gm_base.proofs.Lists.{within_list}
use Rattle.std.proofs.lemmas.Bool.{and_parts}
use Rattle.gm_table.specs.Sorted.{RowMap, at_key}
use Rattle.gm_types.specs.declared.index.IndexKind.{IndexKind}
use Rattle.gm_types.specs.declared.index.IndexKind.TheVariants.{Id, Z2, Z3, Xz2, Xz3, Attr}
use Rattle.gm_types.specs.FeatureType.{IsType}
use Rattle.gm_types.specs.Index.{has_index, is_indexed_one, attribute_indexes, all_indexes}
use Rattle.gm_types.specs.Index.{enabled_indexes}
use Rattle.gm_types.specs.Specification.{Specification}
use Rattle.gm_feature.specs.declared.feature.Feature.{Feature}
use Rattle.gm_feature.specs.Feature.{Fits}
use Rattle.gm_feature.specs.Writer.{feature_bytes}
use Rattle.gm_keys.specs.Key.{key_of, keys_of}
use Rattle.gm_engine_rows.specs.State.{Features, State, IsState, types_of, type_at}
use Rattle.gm_engine_rows.specs.State.{features_of, feature_at}
use Rattle.gm_engine_rows.specs.Rows.{IsRow, rows_of_feature, rows_of_type, all_rows, row_map}
use Rattle.gm_engine_rows.specs.Rows.{rows_of}
use Rattle.gm_engine_rows.proofs.Members.{In, Has, find_out, find_in, has_either, has_first}
use Rattle.gm_engine_rows.proofs.Members.{has_second, has_flat_out, has_flat_in, has_rows_out}
use Rattle.gm_engine_rows.proofs.Members.{has_rows_in, kept_out, kept_in, found, entry_of}

-- what is known of keys: they tell features apart
abbrev pub Keys : Type 0
Keys = (s t : Specification) (one other : IndexKind) (f g : Feature) (key : List ℕ) → IsType s
    → IsType t → Fits s f → Fits t g
    → key_of s one f ≡ Some key → key_of t other g ≡ Some key
    → (s.number ≡ t.number) × (one ≡ other) × (s ≡ t → f.id ≡ g.id)

-- and of the entries of a map
abbrev pub Entries : Type 0
Entries = (all : RowMap) (key : List ℕ) → at_key key (features.entries all) ≡ features.get all key

among_indexes : (from count n : ℕ) → n < count → In (Attr (from + n)) (attribute_indexes from count)
among_indexes from zero n within = absurd (omega arith)
among_indexes from (suc count) zero within = let same : from + 0 ≡ from = omega arith in
    inl (ap (λ (k : ℕ). Attr k) same)
among_indexes from (suc count) (suc n) within =
    let same : from + suc n ≡ from + 1 + n = omega arith in
    inr (subst (λ (k : ℕ). In (Attr k) (attribute_indexes (from + 1) count)) (sym same)
    (among_indexes (from + 1) count n (omega arith)))

among_all : (t : Specification) (k : IndexKind) → has_index t k ≡ true → In k (all_indexes t)
among_all t Id has = inl refl
among_all t Z2 has = inr (inl refl)
among_all t Z3 has = inr (inr (inl refl))
among_all t Xz2 has = inr (inr (inr (inl refl)))
among_all t Xz3 has = inr (inr (inr (inr (inl refl))))
among_all t (Attr n) has =
    let within = within_list t.attributes n
    (λ none. true≢false (sym (and_parts _ _ has).0 ∙ ap is_indexed_one none)) in
    let same : 0 + n ≡ n = omega arith in
    inr (inr (inr (inr
    (inr (subst (λ (k : ℕ). In (Attr k) (attribute_indexes 0 (length t.attributes))) same
    (among_indexes 0 (length t.attributes) n within))))))

pub key_out : (t : Specification) (f : Feature) (key : List ℕ) → In key (keys_of t f)
    → (k : IndexKind) × (has_index t k ≡ true) × (key_of t k f ≡ Some key)
unfolding enabled_indexes
key_out t f key member = let at =
    kept_out (λ k. key_of t k f) (has_index t) (all_indexes t) key member in (at.0, at.1, at.2)

pub key_in : (t : Specification) (f : Feature) (k : IndexKind) (key : List ℕ) → has_index t k ≡ true
    → key_of t k f ≡ Some key → In key (keys_of t f)
unfolding enabled_indexes
key_in t f k key has is =
    kept_in (λ k. key_of t k f) (has_index t) (all_indexes t) k key (among_all t k has) has is

-- ---- the rows of a type
-- a row of one of these features
pub record IsRowOf (t : Specification) (held : Features) (key bytes : List ℕ) : Type 0 where
  pub id : List ℕ
  pub feature : Feature
  pub index : IndexKind
  pub bound : features.get held id ≡ Some feature
  pub enabled : has_index t index ≡ true
  pub keyed : key_of t index feature ≡ Some key
  pub same : bytes ≡ feature_bytes feature

type_out : (t : Specification) (held : Features) (key bytes : List ℕ)
    → Has (rows_of_type t held) key bytes → IsRowOf t held key bytes
type_out t held key bytes has =
    let entry = has_flat_out (λ e. rows_of_feature t e.1) (features.entries held) key bytes has in
    let row = has_rows_out (keys_of t entry.0.1) (feature_bytes entry.0.1) key bytes entry.2 in
    let at = key_out t entry.0.1 key row.0 in
    record {
      id = entry.0.0;
      feature = entry.0.1;
      index = at.0;
      bound = get-entries held entry.0.0
          ∙ found (features.entries held) entry.0 (entries_sorted held) entry.1;
      enabled = at.1;
      keyed = at.2;
      same = row.1;
    }

type_in : (t : Specification) (held : Features) (key bytes : List ℕ) → IsRowOf t held key bytes
    → Has (rows_of_type t held) key bytes
type_in t held key bytes r =
    let entry = entry_of (features.entries held) r.id r.feature
    (find_out r.id r.feature (features.entries held) (sym (get-entries held r.id) ∙ r.bound)) in
    subst (λ (b : List ℕ). Has (rows_of_type t held) key b) (sym r.same)
    (has_flat_in (λ e. rows_of_feature t e.1) (features.entries held) (r.id, r.feature) key
    (feature_bytes r.feature) entry
    (has_rows_in (keys_of t r.feature) (feature_bytes r.feature) key
    (key_in t r.feature r.index key r.enabled r.keyed)))

-- ---- the rows of all types
all_out : (s : State) (key bytes : List ℕ) → Has (all_rows s) key bytes
    → (n : ℕ) × (t : Specification) × (type_at n s ≡ Some t) × IsRowOf t (features_of n s) key bytes
all_out [] key bytes has = absurd has
all_out (c ∷ s) key bytes has = ⊎_elim
    (λ here. (0, c.specification, refl, type_out c.specification c.features key bytes here))
    (λ later. let rest = all_out s key bytes later in (suc rest.0, rest.1, rest.2, rest.3))
    (has_either key bytes (rows_of_type c.specification c.features) (all_rows s) has)

all_in : (s : State) (n : ℕ) (t : Specification) (key bytes : List ℕ) → type_at n s ≡ Some t
    → IsRowOf t (features_of n s) key bytes → Has (all_rows s) key bytes
all_in [] n t key bytes at r = cc
all_in (c ∷ s) zero t key bytes at r =
    let same = same_some c.specification t at in
    has_first key bytes (rows_of_type c.specification c.features) (all_rows s)
    (type_in c.specification c.features key bytes
    (subst (λ u. IsRowOf u c.features key bytes) (sym same) r))
all_in (c ∷ s) (suc n) t key bytes at r =
    has_second key bytes (rows_of_type c.specification c.features) (all_rows s)
    (all_in s n t key bytes at r)

pub row_out : (s : State) (key bytes : List ℕ) → Has (all_rows s) key bytes → IsRow s key bytes
row_out s key bytes has =
    let at = all_out s key bytes has in
    record {
      number = at.0;
      specification = at.1;
      id = at.3.id;
      feature = at.3.feature;
      index = at.3.index;
      typed = at.2;
      held = at.3.bound;
      enabled = at.3.enabled;
      keyed =
          at.3.keyed;
      same = at.3.same;
    }

pub row_in : (s : State) (key bytes : List ℕ) → IsRow s key bytes → Has (all_rows s) key bytes
row_in s key bytes r =
    all_in s r.number r.specification key bytes r.typed
    (record {
      id = r.id;
      feature = r.feature;
      index = r.index;
      bound = r.held;
      enabled = r.enabled;
      keyed = r.keyed;
      same = r.same;
    })

-- ---- whose a row is
pub record SameOwner (s : State) (n : ℕ) (id : List ℕ) (t : Specification) (m : ℕ) (i : List ℕ)
    (u : Specification) : Type 0 where
  pub number : n ≡ m
  pub specification : t ≡ u
  pub identifier : id ≡ i

pub same_owner : Keys → (s s' : State) (key bytes bytes' : List ℕ) → types_of s' ≡ types_of s
    → IsState s → IsState s'
    → (r : IsRow s key bytes) (r' : IsRow s' key bytes')
    → SameOwner s r.number r.id r.specification r'.number r'.id r'.specification
same_owner keys s s' key bytes bytes' types state state' r r' =
    let here = state.placed r.number r.specification r.typed in
    let there = state'.placed r'.number r'.specification r'.typed in
    let held = state.held r.number r.specification r.id r.feature r.typed r.held in
    let held' = state'.held r'.number r'.specification r'.id r'.feature r'.typed r'.held in
    let apart = keys r.specification r'.specification r.index r'.index r.feature r'.feature key
    here.typed there.typed held.fits held'.fits r.keyed r'.keyed in
    let number : r.number ≡ r'.number = sym here.numbered ∙ apart.0 ∙ there.numbered in
    let type_is : r.specification ≡ r'.specification =
    same_some r.specification r'.specification
    (sym r.typed ∙ (λ i. slice_get (sym types i) (number i)) ∙ r'.typed) in
    record {
      number = number;
      specification = type_is;
      identifier = sym held.named ∙ apart.2 type_is ∙ held'.named;
    }

-- one state has one row at a key
pub one_row : Keys → (s : State) (key bytes bytes' : List ℕ) → IsState s → IsRow s key bytes
    → IsRow s key bytes' → bytes' ≡ bytes
one_row keys s key bytes bytes' state r r' =
    let owner = same_owner keys s s key bytes bytes' refl state state r r' in
    let feature_is : r'.feature ≡ r.feature =
    same_some r'.feature r.feature
    (sym r'.held ∙ (λ i. feature_at (sym owner.number i) (sym owner.identifier i) s)
    ∙ r.held) in
    r'.same ∙ ap feature_bytes feature_is ∙ sym r.same

-- ---- the rows in order
pub at_is : Entries → (s : State) (key : List ℕ)
    → at_key key (rows_of s) ≡ find (slice_cmp nat_cmp) key (all_rows s)
unfolding rows_of row_map
at_is entries s key = entries (row_map s) key ∙ get-from_entries nat_list_cmp_total (all_rows s) key

pub stands_out : Entries → (s : State) (key bytes : List ℕ) → at_key key (rows_of s) ≡ Some bytes
    → IsRow s key bytes
stands_out entries s key bytes at =
    row_out s key bytes (find_out key bytes (all_rows s) (sym (at_is entries s key) ∙ at))

pub stands_in : Keys → Entries → (s : State) (key bytes : List ℕ) → IsState s → IsRow s key bytes
    → at_key key (rows_of s) ≡ Some bytes
stands_in keys entries s key bytes state r =
    at_is entries s key
    ∙ find_in key bytes (all_rows s) (row_in s key bytes r)
    (λ w has. one_row keys s key bytes w state r (row_out s key w has))
