-- The feature whose row stands at the key of an identifier.
use Rattle.std.proofs.Common.{◌≡◌, ℕ, true, List, [], ◌++◌, Some, None, refl, sym, ap, subst, ◌∙◌}
use Rattle.std.specs.Prelude.{Result, Ok, Err, IfOk}
use Rattle.gm_base.proofs.Options.{same_some, none_some}
use Rattle.gm_table.specs.Sorted.{at_key}
use Rattle.gm_types.specs.declared.index.IndexKind.{IndexKind}
use Rattle.gm_types.specs.declared.index.IndexKind.TheVariants.{Id}
use Rattle.gm_types.specs.FeatureType.{IsType}
use Rattle.gm_types.specs.Index.{has_index}
use Rattle.gm_types.specs.Specification.{Specification}
use Rattle.gm_feature.specs.declared.feature.Feature.{Feature}
use Rattle.gm_feature.specs.Feature.{Fits}
use Rattle.gm_feature.specs.Writer.{feature_bytes}
use Rattle.gm_keys.specs.Key.{prefix_of, front_of, key_of, id_key}
use Rattle.gm_keys.specs.Layout.{IsLaidOut, IsMiddle}
use Rattle.gm_engine_rows.specs.State.{State, IsState, type_at, feature_at}
use Rattle.gm_engine_rows.specs.Rows.{rows_of, IsRow}

-- what is known of the rows of a state
abbrev pub Found : Type 0
Found = (s : State) (key bytes : List ℕ) → at_key key (rows_of s) ≡ Some bytes → IsRow s key bytes

abbrev pub Stand : Type 0
Stand = (s : State) (key bytes : List ℕ) → IsState s → IsRow s key bytes
    → at_key key (rows_of s) ≡ Some bytes

-- and of keys
abbrev pub LaidOut : Type 0
LaidOut = (t : Specification) (kind : IndexKind) (feature : Feature) (key : List ℕ) → Fits t feature
    → key_of t kind feature ≡ Some key
    → (middle : List ℕ) × IsLaidOut t kind key middle feature.id

abbrev pub Prefixes : Type 0
Prefixes = (s t : Specification) (one other : IndexKind) (x y : List ℕ) → IsType s → IsType t
    → has_index s one ≡ true → has_index t other ≡ true
    → prefix_of s one ++ x ≡ prefix_of t other ++ y
    → (s.number ≡ t.number) × (one ≡ other) × (x ≡ y)

-- what is told of a result, told otherwise
pub if_ok : {T E : Type 0} {P Q : T → Type 0} (r : Result T E) → ((x : T) → P x → Q x)
    → IfOk r P → IfOk r Q
if_ok (Ok x) f p = f x p
if_ok (Err e) f p = p

-- the feature that an identifier is bound to, and its bytes
pub record IsBound (s : State) (t : Specification) (id bytes : List ℕ) : Type 0 where
  pub feature : Feature
  pub held : feature_at t.number id s ≡ Some feature
  pub fits : Fits t feature
  pub same : bytes ≡ feature_bytes feature

-- a row at the key of an identifier is that of its feature
pub row_of_id : LaidOut → Prefixes → (s : State) (t : Specification) (id bytes : List ℕ) → IsState s
    → type_at t.number s ≡ Some t
    → IsRow s (id_key t id) bytes → IsBound s t id bytes
row_of_id laid prefixes s t id bytes state typed r =
    let here = state.placed r.number r.specification r.typed in
    let there = state.placed t.number t typed in
    let held = state.held r.number r.specification r.id r.feature r.typed r.held in
    let out = laid r.specification r.index r.feature (id_key t id) held.fits r.keyed in
    let apart = prefixes r.specification t r.index Id (out.0 ++ r.feature.id) id here.typed
    there.typed r.enabled refl (sym out.1.parts) in
    let number : r.number ≡ t.number = sym here.numbered ∙ apart.0 in
    let same : r.specification ≡ t =
    same_some r.specification t (sym r.typed ∙ ap (λ (n : ℕ). type_at n s) number ∙ typed) in
    let middle : out.0 ≡ [] =
    subst (λ k. IsMiddle r.specification k out.0) apart.1 out.1.middle_is in
    let named : r.feature.id ≡ id = sym (ap (λ (m : List ℕ). m ++ r.feature.id) middle) ∙ apart.2 in
    let bound : r.id ≡ id = sym held.named ∙ named in
    record {
      feature = r.feature;
      held = (λ i. feature_at (sym number i) (sym bound i) s) ∙ r.held;
      fits = subst (λ u. Fits u r.feature) same held.fits;
      same = r.same;
    }

-- the key of a feature in the index of identifiers
key_of_id : (t : Specification) (id : List ℕ) (f : Feature) → f.id ≡ id
    → key_of t Id f ≡ Some (id_key t id)
unfolding front_of
key_of_id t id f named = ap (λ (i : List ℕ). Some (prefix_of t Id ++ i)) named

-- where no row stands there, the identifier is not bound
pub no_row_of_id : Stand → (s : State) (t : Specification) (id : List ℕ) → IsState s
    → type_at t.number s ≡ Some t
    → at_key (id_key t id) (rows_of s) ≡ None → feature_at t.number id s ≡ None
no_row_of_id stand s t id state typed none =
    elim (feature_at t.number id s) as (λ o. feature_at t.number id s ≡ o → o ≡ None) [
      | None ↦ λ _. refl
      | Some f ↦ λ at. absurd
          (none_some (feature_bytes f)
          (sym none ∙ stand s (id_key t id) (feature_bytes f) state (record {
            number = t.number;
            specification = t;
            id = id;
            feature = f;
            index = Id;
            typed = typed;
            held = at;
            enabled = refl;
            keyed = key_of_id t id f (state.held t.number t id f typed at).named;
            same = refl;
          })))
    ] refl
