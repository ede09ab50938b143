-- One step of LIKE, at lists as a slice pattern cuts them.
use Rattle.std.proofs.Common.{◌≡◌, ◌≢◌, ℕ, zero, suc, ◌+◌, Bool, not, ◌&&◌, ◌++◌, sym, ap, ◌∙◌}
use Rattle.std.proofs.Common.{subst, true≢false, append_assoc, ◌-◌, ◌≤◌, ◌<◌, true, false, cond}
use Rattle.std.proofs.Common.{eqb, List, [], ◌∷◌, length, take, drop, get_or, refl, arith, eq-eqb}
use Rattle.std.proofs.Common.{ne_eqb}
use Rattle.std.proofs.lemmas.List.{take_rest, drop-drop}
use Rattle.std.proofs.lemmas.Bool.{and_parts, or_cases, or_left, or_right, and_from}
use Rattle.std.proofs.Common.{inl, inr}
use Rattle.std.specs.List.{AllByRecursion}
use Rattle.gm_base.proofs.Booleans.{same_tests}
use Rattle.gm_base.proofs.Lists.{all_append}
use Rattle.gm_filter.specs.Like.{behind_first}
use Rattle.gm_filter.specs.Wildcards.{is_continuation, past_continuation, some_suffix_from, matches}
use Rattle.gm_filter.specs.Run.{advance, ReachesPercent}

abbrev pub tail : List ℕ → List ℕ
tail l = take (length l - 1) (drop 1 l)

pub at_percent : (p t : List ℕ) → 1 ≤ length p → get_or p 0 0 ≡ 37
    → matches p t ≡ some_suffix_from (matches (tail p)) t
at_percent [] t some is = absurd (omega arith)
at_percent (x ∷ p) t some is = rw (take_rest (x ∷ p) 1, eq-eqb x 37 is)

pub at_end : (p t : List ℕ) → 1 ≤ length p → get_or p 0 0 ≢ 37 → length t < 1 → false ≡ matches p t
at_end [] t some other none = absurd (omega arith)
at_end (x ∷ p) [] some other none =
    rw (ne_eqb x 37 other)
    (elim (eqb x 95) as
    (λ b. false ≡ cond b (behind_first (λ _. true) (λ bs. matches p (past_continuation bs)))
    (behind_first (λ y. eqb y x) (matches p)) []) [ true ↦ refl | false ↦ refl ])
at_end (x ∷ p) (b ∷ t) some other none = absurd (omega arith)

pub at_underscore : (p t : List ℕ) → 1 ≤ length p → 1 ≤ length t → get_or p 0 0 ≡ 95
    → matches (tail p) (past_continuation (tail t)) ≡ matches p t
at_underscore [] t some more is = absurd (omega arith)
at_underscore (x ∷ p) [] some more is = absurd (omega arith)
at_underscore (x ∷ p) (b ∷ t) some more is = let same : x ≡ 95 = is in
    rw (take_rest (x ∷ p) 1, take_rest (b ∷ t) 1, same)

module _ (p t : List ℕ) where
  abbrev pub IsPlain : Type 0
  IsPlain = (1 ≤ length p) × (1 ≤ length t) × (get_or p 0 0 ≢ 37) × (get_or p 0 0 ≢ 95)

pub at_same_byte : (p t : List ℕ) → IsPlain p t → get_or t 0 0 ≡ get_or p 0 0
    → matches (tail p) (tail t) ≡ matches p t
at_same_byte [] t plain same = absurd (omega arith)
at_same_byte (x ∷ p) [] plain same = absurd (omega arith)
at_same_byte (x ∷ p) (b ∷ t) plain same =
    rw (
      take_rest (x ∷ p) 1,
      take_rest (b ∷ t) 1,
      ne_eqb x 37 plain.2,
      ne_eqb x 95 plain.3,
      eq-eqb b x same,
    )

pub at_other_byte : (p t : List ℕ) → IsPlain p t → get_or t 0 0 ≢ get_or p 0 0 → false ≡ matches p t
at_other_byte [] t plain other = absurd (omega arith)
at_other_byte (x ∷ p) [] plain other = absurd (omega arith)
at_other_byte (x ∷ p) (b ∷ t) plain other =
    rw (ne_eqb x 37 plain.2, ne_eqb x 95 plain.3, ne_eqb b x other)

-- ---- the first match of a part is as good as any later one

abbrev IsLater : List ℕ → List ℕ → Type 0
IsLater a b = (k : ℕ) × (a ≡ drop k b)

later_then : (a b c : List ℕ) → IsLater a b → IsLater b c → IsLater a c
later_then a b c p q = (q.0 + p.0, p.1 ∙ ap (drop p.0) q.1 ∙ drop-drop p.0 q.0 c)

skip_later : (t : List ℕ) → IsLater (past_continuation t) t
skip_later [] = (0, refl)
skip_later (b ∷ t) =
    let more = skip_later t in
    elim (is_continuation b) as (λ x. IsLater (cond x (past_continuation t) (b ∷ t)) (b ∷ t))
    [ true ↦ (suc more.0, more.1) | false ↦ (0, refl) ]

skip_keeps : (k : ℕ) (t : List ℕ) → IsLater (past_continuation (drop k t)) (past_continuation t)
skip_keeps zero t = (0, refl)
skip_keeps (suc k) [] = (0, refl)
skip_keeps (suc k) (b ∷ t) =
    elim (is_continuation b) as
    (λ x. IsLater (past_continuation (drop k t)) (cond x (past_continuation t) (b ∷ t))) [
      | true ↦ skip_keeps k t
      | false ↦
          later_then _ (drop k t) (b ∷ t) (skip_later (drop k t)) (suc k, refl)
    ]

drop_keeps : (a b : List ℕ) → IsLater a b → IsLater (drop 1 a) (drop 1 b)
drop_keeps a b h = let turn : h.0 + 1 ≡ 1 + h.0 = omega arith in
    (h.0, ap (drop 1) h.1 ∙ drop-drop 1 h.0 b ∙ ap (λ n. drop n b) turn ∙ sym (drop-drop h.0 1 b))

advance_keeps : (part a b : List ℕ) → IsLater a b → IsLater (advance part a) (advance part b)
advance_keeps [] a b h = h
advance_keeps (p ∷ part) a b h =
    let one = drop_keeps a b h in
    advance_keeps part _ _
    (elim (eqb p 95) as
    (λ x. IsLater (cond x (past_continuation (drop 1 a)) (drop 1 a))
    (cond x (past_continuation (drop 1 b)) (drop 1 b))) [
      | true ↦ subst (λ l. IsLater (past_continuation l) (past_continuation (drop 1 b))) (sym one.1)
          (skip_keeps one.0 (drop 1 b))
      | false ↦ one
    ])

some_suffix_from_earlier : (test : List ℕ → Bool) (k : ℕ) (t : List ℕ)
    → some_suffix_from test (drop k t) ≡ true → some_suffix_from test t ≡ true
some_suffix_from_earlier test zero t h = h
some_suffix_from_earlier test (suc k) [] h = h
some_suffix_from_earlier test (suc k) (b ∷ t) h = or_right _ _ (some_suffix_from_earlier test k t h)

some_suffix_from_at : (test : List ℕ → Bool) (t : List ℕ) → some_suffix_from test t ≡ true
    → (s : List ℕ) × IsLater s t × (test s ≡ true)
some_suffix_from_at test [] h = ([], (0, refl), h)
some_suffix_from_at test (b ∷ t) h =
    elim (or_cases (not (is_continuation b) && test (b ∷ t)) (some_suffix_from test t) h) [
      | inl here ↦ (b ∷ t, (0, refl), (and_parts (not (is_continuation b)) _ here).1)
      | inr there ↦ let found = some_suffix_from_at test t there in
          (found.0, (suc found.1.0, found.1.1), found.2)
    ]

step_matched : (p : ℕ) (more : List ℕ → Bool) (t : List ℕ) (x : Bool)
    → cond x (behind_first (λ _. true) (λ bs. more (past_continuation bs)))
    (behind_first (λ b. eqb b p) more) t ≡ true
    → more (cond x (past_continuation (drop 1 t)) (drop 1 t)) ≡ true
step_matched p more [] true h = absurd (true≢false (sym h))
step_matched p more [] false h = absurd (true≢false (sym h))
step_matched p more (b ∷ t) true h = h
step_matched p more (b ∷ t) false h = (and_parts _ _ h).1

past_part : (part later t : List ℕ) → AllByRecursion (λ p. p ≢ 37) part
    → matches (part ++ 37 ∷ later) t ≡ true
    → some_suffix_from (matches later) (advance part t) ≡ true
past_part [] later t plain h = h
past_part (p ∷ part) later t plain h =
    past_part part later _ plain.1
    (step_matched p (matches (part ++ 37 ∷ later)) t (eqb p 95) (rw (ne_eqb p 37 plain.0) at h))

first_match : (pattern : List ℕ) (b : ℕ) (rest later left : List ℕ) → is_continuation b ≡ false
    → ReachesPercent pattern (b ∷ rest) later left
    → some_suffix_from (matches later) left ≡ some_suffix_from (matches pattern) (b ∷ rest)
first_match pattern b rest later left begins h = same_tests _ _
    (λ found. or_left _ _ (and_from _ _ (ap not begins) (h.same ∙ found)))
    (λ found.
    let at = some_suffix_from_at (matches pattern) (b ∷ rest) found in
    let after = advance_keeps h.part at.0 (b ∷ rest) at.1 in
    rw h.advanced (some_suffix_from_earlier (matches later) after.0 (advance h.part (b ∷ rest))
    (subst (λ l. some_suffix_from (matches later) l ≡ true) after.1
    (past_part h.part later at.0 h.plain
    (subst (λ p. matches p at.0 ≡ true) h.split at.2)))))

pub first_match_in : (pattern t later left : List ℕ) → 1 ≤ length t
    → is_continuation (get_or t 0 0) ≡ false → ReachesPercent pattern t later left
    → some_suffix_from (matches later) left ≡ some_suffix_from (matches pattern) t
first_match_in pattern [] later left some begins h = absurd (omega arith)
first_match_in pattern (b ∷ rest) later left some begins h =
    first_match pattern b rest later left begins h

advance_more : (part : List ℕ) (p : ℕ) (t : List ℕ)
    → advance (part ++ p ∷ []) t
    ≡ cond (eqb p 95) (past_continuation (drop 1 (advance part t))) (drop 1 (advance part t))
advance_more [] p t = refl
advance_more (q ∷ part) p t = advance_more part p _

-- what the loop of `Run::of` has passed
pub record HasPassed (pattern text p t : List ℕ) : Type 0 where
  pub part : List ℕ
  pub plain : AllByRecursion (λ x. x ≢ 37) part
  pub split : pattern ≡ part ++ p
  pub advanced : t ≡ advance part text
  pub shorter : length t ≤ length text
  pub same : matches p t ≡ matches pattern text

pub passed_none : (pattern text : List ℕ) → HasPassed pattern text pattern text
passed_none pattern text =
    record {
      part = [];
      plain = tt;
      split = refl;
      advanced = refl;
      shorter = omega arith;
      same = refl;
    }

pub passed_more : (pattern text p t next : List ℕ) → HasPassed pattern text p t → 1 ≤ length p
    → get_or p 0 0 ≢ 37
    → next ≡ cond (eqb (get_or p 0 0) 95) (past_continuation (tail t)) (tail t)
    → length next ≤ length t → matches (tail p) next ≡ matches p t
    → HasPassed pattern text (tail p) next
passed_more pattern text [] t next h some plain is fewer same = absurd (omega arith)
passed_more pattern text (x ∷ p) t next h some plain is fewer same = record {
  part = h.part ++ x ∷ [];
  plain = all_append (λ y. y ≢ 37) h.part (x ∷ []) h.plain (plain, tt);
  split = rw (take_rest (x ∷ p) 1, append_assoc) h.split;
  advanced = rw (advance_more, ← h.advanced) (rw (take_rest t 1) at is);
  shorter = omega (arith, h.shorter);
  same = same ∙ h.same;
}

pub reached : (pattern text p t : List ℕ) → HasPassed pattern text p t → 1 ≤ length p
    → get_or p 0 0 ≡ 37 → ReachesPercent pattern text (tail p) t
reached pattern text [] t h some is = absurd (omega arith)
reached pattern text (x ∷ p) t h some is =
    let percent : x ≡ 37 = is in
    record {
      part = h.part;
      plain = h.plain;
      split = rw (take_rest (x ∷ p) 1, ← percent) h.split;
      advanced = h.advanced;
      shorter = h.shorter;
      same = sym h.same ∙ at_percent (x ∷ p) t some is;
    }
