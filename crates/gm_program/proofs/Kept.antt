-- Rows that are kept of features, and their order.
use Rattle.std.proofs.Common.{◌≡◌, ℕ, List, [], ◌∷◌, ◌++◌, map, length, Option, Some, None, refl}
use Rattle.std.proofs.Common.{sym, ap, subst, ◌∙◌}
use Rattle.std.specs.Prelude.{All}
use Rattle.std.specs.List.{AllByRecursion, list_any}
use Rattle.std.specs.Ordering.{nat_cmp, match_ordering}
use Rattle.std.specs.Cmp.Lexicographic.{slice_cmp}
use Rattle.std.specs.declared.cmp.Ordering.TheVariants.{Less, Equal, Greater}
use Rattle.std.specs.BTreeMap.{insert_entry}
use Rattle.std.specs.FinMap.{slice_cmp-IsAntisymmetric, nat_cmp-IsAntisymmetric}
use Rattle.std.proofs.lemmas.List.Elements.{All-from_recursion}
use Rattle.gm_base.proofs.Lists.{each_as, all_append}
use Rattle.gm_feature.specs.declared.feature.Feature.{Feature}
use Rattle.gm_feature.specs.declared.value.Value.{Value}
use Rattle.gm_feature.specs.Writer.{feature_bytes}
use Rattle.gm_filter.specs.Tree.{Tree}
use Rattle.gm_filter.specs.Truth.{is_true}
use Rattle.gm_scan.specs.declared.found_rows.Keeping.{Keeping}
use Rattle.gm_scan.specs.declared.found_rows.Keeping.TheVariants.{Rows, Ids}
use Rattle.gm_scan.specs.FoundRows.{FoundRow, kept_of}
use Rattle.gm_engine_rows.specs.State.{State, feature_at}
use Rattle.gm_program.specs.Collecting.{Collected, collected, feature_of, Counts}
use Rattle.gm_program.specs.InOrder.{AreBound, in_order, put_all}
use Rattle.gm_program.specs.Kept.{Adds, AreKept}
use Rattle.gm_program.specs.Question.{answer}
use Rattle.gm_program.proofs.Answering.{answer_is, length-map}
use Rattle.gm_program.proofs.Collected.{AreNamed, collects_none, collects_more}
use Rattle.gm_program.proofs.Planned.{map-append}

-- ---- a part more
collected-append : (es : Collected) (fs gs : List Feature)
    → collected es (fs ++ gs) ≡ collected (collected es fs) gs
collected-append es [] gs = refl
collected-append es (f ∷ fs) gs =
    collected-append (insert_entry (slice_cmp nat_cmp) es f.id f.values) fs gs

pub kept_none : (s : State) (n : ℕ) (keeping : Keeping) (rows : List FoundRow) → rows ≡ []
    → AreKept s n [] keeping rows
kept_none s n keeping rows none =
    record { features = []; are = none; bound = tt; collects = collects_none s n [] refl }

pub kept_more : (s : State) (n : ℕ) (tests : List Tree) (test : Tree) (keeping : Keeping)
    (before after : List FoundRow) → AreNamed s n → Adds s n test keeping before after
    → AreKept s n tests keeping before → AreKept s n (tests ++ test ∷ []) keeping after
kept_more s n tests test keeping before after are_named adds kept = record {
  features = kept.features ++ adds.features;
  are = adds.are ∙ ap (λ rows. rows ++ map (kept_of keeping) adds.features) kept.are
      ∙ sym (map-append (kept_of keeping) kept.features adds.features);
  bound = all_append (λ f. feature_at n f.id s ≡ Some f) kept.features adds.features kept.bound
      (each_as adds.features (λ f true_of. true_of.held) adds.finds.sound);
  collects = collects_more s n tests test adds.features (collected [] kept.features)
      (collected [] (kept.features ++ adds.features)) are_named adds.finds kept.collects
      (collected-append [] kept.features adds.features);
}

-- ---- the bytes of a row follow from its identifier
abbrev bytes_in : Keeping → Option Feature → List ℕ
bytes_in keeping None = []
bytes_in keeping (Some f) = (kept_of keeping f).1

named_so : (keeping : Keeping) (f : Feature) → (kept_of keeping f).0 ≡ f.id
named_so Rows f = refl
named_so Ids f = refl

each_bound : (s : State) (n : ℕ) (keeping : Keeping) (fs : List Feature)
    → AllByRecursion (λ f. feature_at n f.id s ≡ Some f) fs
    → AllByRecursion (λ row. row.1 ≡ bytes_in keeping (feature_at n row.0 s))
    (map (kept_of keeping) fs)
each_bound s n keeping [] bound = tt
each_bound s n keeping (f ∷ fs) bound = (
  sym (ap (λ (id : List ℕ). bytes_in keeping (feature_at n id s)) (named_so keeping f)
      ∙ ap (bytes_in keeping) bound.0),
  each_bound s n keeping fs bound.1,
)

pub kept_bound : (s : State) (n : ℕ) (tests : List Tree) (keeping : Keeping) (rows : List FoundRow)
    → AreKept s n tests keeping rows → AreBound rows
kept_bound s n tests keeping rows kept =
    let P = λ (row : FoundRow). row.1 ≡ bytes_in keeping (feature_at n row.0 s) in
    let all = map (kept_of keeping) kept.features in (
      λ id. bytes_in keeping (feature_at n id s),
      subst (All P) (sym kept.are)
          (All-from_recursion P all (each_bound s n keeping kept.features kept.bound)),
    )

-- ---- in order the rows are those of what is collected
abbrev row_by : (Feature → List ℕ) → Feature → FoundRow
row_by bytes f = (f.id, bytes f)

insert_row : (bytes : Feature → List ℕ) (es : Collected) (f : Feature)
    → insert_entry (slice_cmp nat_cmp) (map (λ e. row_by bytes (feature_of e)) es) f.id (bytes f)
    ≡ map (λ e. row_by bytes (feature_of e)) (insert_entry (slice_cmp nat_cmp) es f.id f.values)
insert_row bytes [] f = refl
insert_row bytes (e ∷ es) f =
    let row = λ (x : List ℕ × List Value). row_by bytes (feature_of x) in
    elim (slice_cmp nat_cmp f.id e.0) as (λ r. slice_cmp nat_cmp f.id e.0 ≡ r
    → match_ordering r ((f.id, bytes f) ∷ row e ∷ map row es) ((e.0, bytes f) ∷ map row es)
    (row e ∷ insert_entry (slice_cmp nat_cmp) (map row es) f.id (bytes f))
    ≡ map row (match_ordering r ((f.id, f.values) ∷ e ∷ es) ((e.0, f.values) ∷ es)
    (e ∷ insert_entry (slice_cmp nat_cmp) es f.id f.values))) [
      | Less ↦ λ _. refl
      | Equal ↦ λ is.
          let same : f.id ≡ e.0 = slice_cmp-IsAntisymmetric nat_cmp-IsAntisymmetric f.id e.0 is in
          let here : f ≡ feature_of (e.0, f.values) =
          λ i. record { id = same i; values = f.values } in
          ap (λ (g : Feature). (e.0, bytes g) ∷ map row es) here
      | Greater ↦ λ _. ap (λ rest. row e ∷ rest) (insert_row bytes es f)
    ] refl

put_rows : (bytes : Feature → List ℕ) (es : Collected) (fs : List Feature)
    → put_all (map (λ e. row_by bytes (feature_of e)) es) (map (row_by bytes) fs)
    ≡ map (λ e. row_by bytes (feature_of e)) (collected es fs)
put_rows bytes es [] = refl
put_rows bytes es (f ∷ fs) =
    ap (λ rows. put_all rows (map (row_by bytes) fs)) (insert_row bytes es f)
    ∙ put_rows bytes (insert_entry (slice_cmp nat_cmp) es f.id f.values) fs

put_kept : (keeping : Keeping) (fs : List Feature)
    → in_order (map (kept_of keeping) fs)
    ≡ map (λ e. kept_of keeping (feature_of e)) (collected [] fs)
put_kept Rows fs = put_rows feature_bytes [] fs
put_kept Ids fs = put_rows (λ _. []) [] fs

as_features : (keeping : Keeping) (es : Collected)
    → map (λ e. kept_of keeping (feature_of e)) es ≡ map (kept_of keeping) (map feature_of es)
as_features keeping [] = refl
as_features keeping (e ∷ es) =
    ap (λ rows. kept_of keeping (feature_of e) ∷ rows) (as_features keeping es)

-- and so those of the answer
pub kept_in_order : (s : State) (n : ℕ) (tests : List Tree) (wanted : Tree) (keeping : Keeping)
    (rows : List FoundRow) → AreNamed s n → AreKept s n tests keeping rows
    → ((f : Feature) → is_true f wanted ≡ list_any (λ t. is_true f t) tests)
    → in_order rows ≡ map (kept_of keeping) (answer n wanted s)
kept_in_order s n tests wanted keeping rows are_named kept same =
    ap in_order kept.are ∙ put_kept keeping kept.features
    ∙ as_features keeping (collected [] kept.features)
    ∙ ap (map (kept_of keeping))
    (answer_is s n tests wanted (collected [] kept.features) are_named kept.collects same)

-- and as many
pub kept_counts : (s : State) (n : ℕ) (tests : List Tree) (keeping : Keeping) (rows : List FoundRow)
    (count : ℕ) → AreKept s n tests keeping rows → count ≡ length (in_order rows)
    → Counts s n tests count
kept_counts s n tests keeping rows count kept is = record {
  held = collected [] kept.features;
  collects = kept.collects;
  are = is ∙ ap (λ (rs : List FoundRow). length (in_order rs)) kept.are
      ∙ ap length (put_kept keeping kept.features)
      ∙ length-map (λ e. kept_of keeping (feature_of e)) (collected [] kept.features);
}
