-- Keys by what an index needs of a feature.
use Rattle.std.proofs.Common.{◌≡◌, ℕ, List, [], ◌∷◌, ◌++◌, append_assoc, Option, Some, None, Result}
use Rattle.std.proofs.Common.{Ok, Err, IfOk, option_map, option_and_then, refl, ap, ◌∙◌}
use Rattle.gm_geom.specs.declared.point.Point.{Point}
use Rattle.gm_geom.specs.declared.point.Box2.{Box2}
use Rattle.gm_calendar.specs.declared.bin.Bin.{Bin}
use Rattle.gm_types.specs.declared.index.IndexKind.TheVariants.{Id, Z2, Z3, Xz2, Xz3, Attr}
use Rattle.gm_types.specs.Specification.{Specification, period_of, z2_bits_of, z3_bits_of}
use Rattle.gm_types.specs.Specification.{precision_of}
use Rattle.gm_feature.specs.declared.feature.Feature.{Feature}
use Rattle.gm_feature.specs.declared.value.Value.{Value}
use Rattle.gm_feature.specs.Feature.{value_at}
use Rattle.gm_keys.specs.Cell.{z2_code, z3_code, xz2_code, xz3_code}
use Rattle.gm_keys.specs.Whereabouts.{point_in, box_in, bin_in}
use Rattle.gm_keys.specs.Key.{prefix_of, shard_of, code_front, bin_code_front, front_of, key_of}
use Rattle.gm_keys.specs.Key.{id_key, value_key, form_of}

abbrev whole : List ℕ → Option (List ℕ) → Option (List ℕ)
whole id front = option_map (λ front. front ++ id) front

-- with a code
abbrev pub by_code : {A : Type 0} → (A → List ℕ) → List ℕ → Option A → Option (List ℕ)
by_code front id o = whole id (option_map front o)

-- with a bin and a code
abbrev pub by_bin : {A B : Type 0} → (A → B → List ℕ) → List ℕ → Option A → Option B
    → Option (List ℕ)
by_bin front id o p = whole id (option_and_then (λ a. option_map (front a) p) o)

pub z2_some : (t : Specification) (f : Feature) (p : Point) (key : List ℕ) → Some p ≡ point_in t f
    → key ≡ code_front (prefix_of t Z2) (shard_of t f.id) (z2_code (z2_bits_of t) p) ++ f.id
    → Some key ≡ key_of t Z2 f
unfolding front_of
z2_some t f p key at is =
    ap Some is ∙ ap
    (by_code (λ p. code_front (prefix_of t Z2) (shard_of t f.id) (z2_code (z2_bits_of t) p))
    f.id) at

pub z2_none : (t : Specification) (f : Feature) → None ≡ point_in t f → None ≡ key_of t Z2 f
unfolding front_of
z2_none t f at =
    ap (by_code (λ p. code_front (prefix_of t Z2) (shard_of t f.id) (z2_code (z2_bits_of t) p))
    f.id) at

pub xz2_some : (t : Specification) (f : Feature) (box : Box2) (key : List ℕ) → Some box ≡ box_in t f
    → key ≡ code_front (prefix_of t Xz2) (shard_of t f.id) (xz2_code (precision_of t) box) ++ f.id
    → Some key ≡ key_of t Xz2 f
unfolding front_of
xz2_some t f box key at is =
    ap Some is ∙ ap
    (by_code (λ b. code_front (prefix_of t Xz2) (shard_of t f.id) (xz2_code (precision_of t) b))
    f.id) at

pub xz2_none : (t : Specification) (f : Feature) → None ≡ box_in t f → None ≡ key_of t Xz2 f
unfolding front_of
xz2_none t f at =
    ap (by_code (λ b. code_front (prefix_of t Xz2) (shard_of t f.id) (xz2_code (precision_of t) b))
    f.id) at

abbrev z3_front : Specification → Feature → Point → Bin → List ℕ
z3_front t f p bin =
    bin_code_front (prefix_of t Z3) (shard_of t f.id) bin.number
    (z3_code (period_of t) (z3_bits_of t) p bin.offset)

abbrev xz3_front : Specification → Feature → Box2 → Bin → List ℕ
xz3_front t f box bin =
    bin_code_front (prefix_of t Xz3) (shard_of t f.id) bin.number
    (xz3_code (period_of t) (precision_of t) box bin.offset)

pub z3_some : (t : Specification) (f : Feature) (p : Point) (bin : Bin) (key : List ℕ)
    → Some p ≡ point_in t f → Some bin ≡ bin_in t f
    → key ≡ z3_front t f p bin ++ f.id → Some key ≡ key_of t Z3 f
unfolding front_of
z3_some t f p bin key at at' is = ap Some is ∙ (λ i. by_bin (z3_front t f) f.id (at i) (at' i))

pub z3_no_bin : (t : Specification) (f : Feature) (p : Point) → Some p ≡ point_in t f
    → None ≡ bin_in t f → None ≡ key_of t Z3 f
unfolding front_of
z3_no_bin t f p at at' = λ i. by_bin (z3_front t f) f.id (at i) (at' i)

pub z3_no_point : (t : Specification) (f : Feature) → None ≡ point_in t f → None ≡ key_of t Z3 f
unfolding front_of
z3_no_point t f at = λ i. by_bin (z3_front t f) f.id (at i) (bin_in t f)

pub xz3_some : (t : Specification) (f : Feature) (box : Box2) (bin : Bin) (key : List ℕ)
    → Some box ≡ box_in t f → Some bin ≡ bin_in t f
    → key ≡ xz3_front t f box bin ++ f.id → Some key ≡ key_of t Xz3 f
unfolding front_of
xz3_some t f box bin key at at' is = ap Some is ∙ (λ i. by_bin (xz3_front t f) f.id (at i) (at' i))

pub xz3_no_bin : (t : Specification) (f : Feature) (box : Box2) → Some box ≡ box_in t f
    → None ≡ bin_in t f → None ≡ key_of t Xz3 f
unfolding front_of
xz3_no_bin t f box at at' = λ i. by_bin (xz3_front t f) f.id (at i) (at' i)

pub xz3_no_box : (t : Specification) (f : Feature) → None ≡ box_in t f → None ≡ key_of t Xz3 f
unfolding front_of
xz3_no_box t f at = λ i. by_bin (xz3_front t f) f.id (at i) (bin_in t f)

pub id_some : (t : Specification) (f : Feature) (key : List ℕ) → key ≡ id_key t f.id
    → Some key ≡ key_of t Id f
unfolding front_of
id_some t f key is = ap Some is

pub value_is : (t : Specification) (f : Feature) (number : ℕ) (v : Value) → v ≡ value_at f number
    → value_key t number f.id v ≡ key_of t (Attr number) f
unfolding front_of
value_is t f number v is = ap (value_key t number f.id) is ∙ by (form_of (value_at f number))
  where
    by : (o : Option (List ℕ))
        → option_map (λ form. (prefix_of t (Attr number) ++ form) ++ f.id) o
        ≡ whole f.id (option_map (λ form. prefix_of t (Attr number) ++ form) o)
    by None = refl
    by (Some form) = refl

-- the parts of a key with a bin, appended one after the other
pub appended : (prefix two eight id : List ℕ) (shard : ℕ) (one other third all : List ℕ)
    → one ≡ prefix ++ shard ∷ [] → other ≡ one ++ two → third ≡ other ++ eight
    → all ≡ third ++ id → all ≡ (prefix ++ (shard ∷ (two ++ eight))) ++ id
appended prefix two eight id shard one other third all first second fourth last =
    last ∙ ap (λ x. x ++ id)
    (fourth ∙ ap (λ x. x ++ eight)
    (second ∙ ap (λ x. x ++ two) first ∙ append_assoc prefix (shard ∷ []) two)
    ∙ append_assoc prefix (shard ∷ two) eight)

pub if_ok : {A E : Type 0} (r : Result A E) (P Q : A → Type 0) → ((x : A) → P x → Q x)
    → IfOk r P → IfOk r Q
if_ok (Ok x) P Q so is = so x is
if_ok (Err e) P Q so is = tt
