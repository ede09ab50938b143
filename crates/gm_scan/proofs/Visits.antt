-- What visitors have after all rows.
use Rattle.std.proofs.Common.{◌≡◌, ℕ, Bool, true, false, ◌<◌, ◌≤◌, ◌^◌, List, [], ◌∷◌, ◌++◌, length}
use Rattle.std.proofs.Common.{map, cond, refl, sym, ap, subst, ◌∙◌, arith, append_assoc}
use Rattle.std.specs.Prelude.{Result, Ok, Err, All, OnOk}
use Rattle.gm_base.specs.Counter.{capped_sum}
use Rattle.gm_table.specs.Sorted.{Rows}
use Rattle.gm_table.specs.Visit.{Handed}
use Rattle.gm_types.specs.Specification.{Specification}
use Rattle.gm_feature.specs.declared.feature.Feature.{Feature}
use Rattle.gm_filter.specs.Tree.{Tree}
use Rattle.gm_filter.specs.Truth.{is_true}
use Rattle.gm_scan.specs.declared.counted.Counted.{Counted}
use Rattle.gm_scan.specs.declared.found.Found.{Found}
use Rattle.gm_scan.specs.declared.found_rows.Keeping.{Keeping}
use Rattle.gm_scan.specs.declared.found_rows.Keeping.TheVariants as keeping_of
use Rattle.gm_scan.specs.declared.kept.Kept.{Kept}
use Rattle.gm_scan.specs.Counted as counting
use Rattle.gm_scan.specs.Found.{Takes, takes_row}
use Rattle.gm_scan.specs.FoundRows.{FoundRow, kept_of}
use Rattle.gm_scan.specs.Held.{HasFeature, Hold, matching}
use Rattle.gm_scan.specs.Kept as keeping_rows
use Rattle.gm_scan.specs.Trial.{type_of, filter_of}
use Rattle.gm_scan.proofs.Holding.{matching_cons}

append_none : {A : Type 0} (xs : List A) → xs ≡ xs ++ []
append_none [] = refl
append_none (x ∷ xs) = ap (λ ys. x ∷ ys) (append_none xs)

pub collects : (rows : Rows) (held : List Feature) (before after : Found)
    → Hold (type_of before.trial.now) rows held → Handed takes_row before rows after
    → after.features ≡ before.features ++ matching (filter_of before.trial.now) held
collects [] [] before after hold handed =
    ap (λ (f : Found). f.features) handed ∙ append_none before.features
collects [] (f ∷ held) before after hold handed = absurd hold
collects (row ∷ rows) [] before after hold handed = absurd hold
collects (row ∷ rows) (f ∷ held) before after hold handed =
    let mid = handed.0 in
    let taken : Takes before row.1 (Ok tt) mid = handed.1 in
    let here : mid.features ≡ before.features ++ matching (filter_of before.trial.now) (f ∷ []) =
    taken.keeps f hold.0 in
    let rest = collects rows held mid after
    (subst (λ trial. Hold (type_of trial) rows held) (sym taken.same) hold.1) handed.2 in
    rest
    ∙ ap (λ trial. mid.features ++ matching (filter_of trial) held) taken.same
    ∙ ap (λ fs. fs ++ matching (filter_of before.trial.now) held) here
    ∙ append_assoc before.features (matching (filter_of before.trial.now) (f ∷ []))
    (matching (filter_of before.trial.now) held)
    ∙ ap (λ fs. before.features ++ fs) (matching_cons (filter_of before.trial.now) f held)

capped_none : (n : ℕ) → n < 2 ^ 64 → n ≡ capped_sum n 0
capped_none n fits = omega arith

raised_more : (matches : Bool) (before mid after : ℕ) (f : Feature) (others : List Feature)
    → mid ≡ counting.raised matches before → after ≡ capped_sum mid (length others)
    → after ≡ capped_sum before (length (cond matches (f ∷ others) others))
raised_more true before mid after f others first rest = omega (arith, first, rest)
raised_more false before mid after f others first rest =
    rest ∙ ap (λ (n : ℕ). capped_sum n (length others)) first

raised_fits : (matches : Bool) (before mid : ℕ) → mid ≡ counting.raised matches before
    → before < 2 ^ 64 → mid < 2 ^ 64
raised_fits true before mid is fits = omega (arith, is)
raised_fits false before mid is fits = omega (arith, is, fits)

pub counts : (rows : Rows) (held : List Feature) (before after : Counted) → before.matched < 2 ^ 64
    → Hold (type_of before.trial.now) rows held → Handed counting.takes_row before rows after
    → after.matched
    ≡ capped_sum before.matched (length (matching (filter_of before.trial.now) held))
counts [] [] before after fits hold handed =
    ap (λ (c : Counted). c.matched) handed ∙ capped_none before.matched fits
counts [] (f ∷ held) before after fits hold handed = absurd hold
counts (row ∷ rows) [] before after fits hold handed = absurd hold
counts (row ∷ rows) (f ∷ held) before after fits hold handed =
    let mid = handed.0 in
    let taken : counting.Takes before row.1 (Ok tt) mid = handed.1 in
    let t = filter_of before.trial.now in
    let here : mid.matched ≡ counting.raised (is_true f t) before.matched = taken.counts f hold.0 in
    let rest = counts rows held mid after
    (raised_fits (is_true f t) before.matched mid.matched here fits)
    (subst (λ trial. Hold (type_of trial) rows held) (sym taken.same) hold.1) handed.2 in
    let now : after.matched ≡ capped_sum mid.matched (length (matching t held)) =
    rest ∙ ap (λ trial. capped_sum mid.matched (length (matching (filter_of trial) held)))
    taken.same in
    raised_more (is_true f t) before.matched mid.matched after.matched f (matching t held) here now

pub kept_not : (keeping : Keeping) (t : Tree) (f : Feature) (rows : List FoundRow) (b : Bool)
    → b ≡ is_true f t → b ≡ false
    → rows ≡ rows ++ map (kept_of keeping) (matching t (f ∷ []))
kept_not keeping t f rows b is fails =
    append_none rows ∙ ap (λ c. rows ++ map (kept_of keeping) (cond c (f ∷ []) [])) (sym fails ∙ is)

kept_id : (keeping : Keeping) (f : Feature) → f.id ≡ (kept_of keeping f).0
kept_id keeping_of.Rows f = refl
kept_id keeping_of.Ids f = refl

pub kept_one : (keeping : Keeping) (t : Tree) (f : Feature) (rows after : List FoundRow)
    (id content : List ℕ) (b : Bool) → b ≡ is_true f t → b ≡ true
    → id ≡ f.id → content ≡ (kept_of keeping f).1 → after ≡ rows ++ (id, content) ∷ []
    → after ≡ rows ++ map (kept_of keeping) (matching t (f ∷ []))
kept_one keeping t f rows after id content b is holds named kept pushed =
    let whole = named ∙ kept_id keeping f in
    pushed ∙ (λ i. rows ++ (whole i, kept i) ∷ [])
    ∙ ap (λ c. rows ++ map (kept_of keeping) (cond c (f ∷ []) [])) (sym holds ∙ is)

kept_cons : (keeping : Keeping) (t : Tree) (f : Feature) (fs : List Feature)
    → map (kept_of keeping) (matching t (f ∷ [])) ++ map (kept_of keeping) (matching t fs)
    ≡ map (kept_of keeping) (matching t (f ∷ fs))
kept_cons keeping t f fs =
    elim (is_true f t) as
    (λ b. map (kept_of keeping) (cond b (f ∷ []) []) ++ map (kept_of keeping) (matching t fs)
    ≡ map (kept_of keeping) (cond b (f ∷ matching t fs) (matching t fs))) [
      | true ↦ refl
      | false ↦ refl
    ]

pub gathers : (rows : Rows) (held : List Feature) (before after : Kept)
    → Hold (type_of before.trial.now) rows held → Handed keeping_rows.takes_row before rows after
    → after.rows ≡ before.rows
    ++ map (kept_of before.keeping) (matching (filter_of before.trial.now) held)
gathers [] [] before after hold handed = ap (λ (k : Kept). k.rows) handed ∙ append_none before.rows
gathers [] (f ∷ held) before after hold handed = absurd hold
gathers (row ∷ rows) [] before after hold handed = absurd hold
gathers (row ∷ rows) (f ∷ held) before after hold handed =
    let mid = handed.0 in
    let taken : keeping_rows.Takes before row.1 (Ok tt) mid = handed.1 in
    let t = filter_of before.trial.now in
    let view = kept_of before.keeping in
    let here : mid.rows ≡ before.rows ++ map view (matching t (f ∷ [])) = taken.keeps f hold.0 in
    let rest = gathers rows held mid after
    (subst (λ trial. Hold (type_of trial) rows held) (sym taken.same) hold.1) handed.2 in
    rest
    ∙ ap (λ trial. mid.rows ++ map (kept_of mid.keeping) (matching (filter_of trial) held))
    taken.same
    ∙ ap (λ way. mid.rows ++ map (kept_of way) (matching t held)) taken.way
    ∙ ap (λ rs. rs ++ map view (matching t held)) here
    ∙ append_assoc before.rows (map view (matching t (f ∷ []))) (map view (matching t held))
    ∙ ap (λ rs. before.rows ++ rs) (kept_cons before.keeping t f held)

-- ---- what they have in the end
pub on_ok : {X E P Q : Type 0} (r : Result X E) → (P → Q) → OnOk r P → OnOk r Q
on_ok (Ok x) f p = f p
on_ok (Err e) f p = tt

pub admitted : (rows : Rows) (t s : Specification) → s ≡ t → All (λ row. HasFeature t row.1) rows
    → All (λ row. HasFeature s row.1) rows
admitted rows t s same each = subst (λ u. All (λ row. HasFeature u row.1) rows) (sym same) each

pub found_all : (rows : Rows) (held : List Feature) (before after : Found) (t : Specification)
    (filter : Tree)
    → type_of before.trial.now ≡ t → filter_of before.trial.now ≡ filter → before.features ≡ []
    → Hold t rows held → Handed takes_row before rows after
    → after.features ≡ matching filter held
found_all rows held before after t filter typed filtered none hold handed =
    collects rows held before after (subst (λ u. Hold u rows held) (sym typed) hold) handed
    ∙ (λ i. none i ++ matching (filtered i) held)

pub kept_all : (rows : Rows) (held : List Feature) (before after : Kept) (t : Specification)
    (filter : Tree) (keeping : Keeping) (first : List FoundRow)
    → type_of before.trial.now ≡ t → filter_of before.trial.now ≡ filter → before.keeping ≡ keeping
    → before.rows ≡ first
    → Hold t rows held → Handed keeping_rows.takes_row before rows after
    → after.rows ≡ first ++ map (kept_of keeping) (matching filter held)
kept_all rows held before after t filter keeping first typed filtered way start hold handed =
    gathers rows held before after (subst (λ u. Hold u rows held) (sym typed) hold) handed
    ∙ (λ i. start i ++ map (kept_of (way i)) (matching (filtered i) held))

held_many : (t : Specification) (rows : Rows) (held : List Feature) → Hold t rows held
    → length held ≡ length rows
held_many t [] [] hold = refl
held_many t [] (f ∷ held) hold = absurd hold
held_many t (row ∷ rows) [] hold = absurd hold
held_many t (row ∷ rows) (f ∷ held) hold = omega (arith, held_many t rows held hold.1)

matching_few : (filter : Tree) (held : List Feature) → length (matching filter held) ≤ length held
matching_few filter [] = omega arith
matching_few filter (f ∷ held) =
    elim (is_true f filter) as
    (λ b. length (cond b (f ∷ matching filter held) (matching filter held)) ≤ length (f ∷ held)) [
      | true ↦ omega (arith, matching_few filter held)
      | false ↦ omega (arith, matching_few filter held)
    ]

pub counted_all : (rows all : Rows) (held : List Feature) (before after : Counted)
    (t : Specification) (filter : Tree)
    → type_of before.trial.now ≡ t → filter_of before.trial.now ≡ filter → before.matched ≡ 0
    → length rows ≤ length all → length all < 2 ^ 64
    → Hold t rows held → Handed counting.takes_row before rows after
    → after.matched ≡ length (matching filter held)
counted_all rows all held before after t filter typed filtered none few fits hold handed =
    let raised = counts rows held before after (omega (arith, none))
    (subst (λ u. Hold u rows held) (sym typed) hold) handed in
    let now : after.matched ≡ capped_sum 0 (length (matching filter held)) =
    raised ∙ (λ i. capped_sum (none i) (length (matching (filtered i) held))) in
    omega (arith, now, matching_few filter held, held_many t rows held hold, few, fits)
