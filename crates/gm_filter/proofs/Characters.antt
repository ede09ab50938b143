-- LIKE over bytes is LIKE over characters.
use Rattle.std.proofs.Common.{◌≡◌, ◌≢◌, ℕ, ◌+◌, ◌/◌, ◌<◌, ◌≤◌, Bool, ◌&&◌, ◌||◌, true}
use Rattle.std.proofs.Common.{false, cond, eqb, ltb, List, [], ◌∷◌, ◌++◌, refl, sym, ap, ◌∙◌, subst}
use Rattle.std.proofs.Common.{inl, inr, arith, lit<, eq-eqb, ne_eqb}
use Rattle.std.proofs.lemmas.Bool.{cases_eq, and_parts, eqb-true, cases_Bool, ltb-true}
use Rattle.std.proofs.lemmas.Str.{encode_same, encode_ascii, encodes-chars}
use Rattle.std.specs.List.{AllByRecursion}
use Rattle.std.specs.Str.{IsUtf8, chars}
use lib.Utf8.{encode, encodes, next}
use Rattle.gm_filter.specs.Like.{some_suffix, behind_first, fits, is_like}
use Rattle.gm_filter.specs.Wildcards.{is_continuation, past_continuation, some_suffix_from, matches}

abbrev pub IsPlain : ℕ → Type 0
IsPlain b = (b ≢ 37) × (b ≢ 95)

-- the bytes of a character
pub record HasBytes (c : ℕ) (bytes : List ℕ) : Type 0 where
  pub first : ℕ
  pub rest : List ℕ
  pub is : bytes ≡ first ∷ rest
  pub begins : is_continuation first ≡ false
  pub inside : AllByRecursion (λ b. is_continuation b ≡ true) rest
  pub plain : IsPlain c → AllByRecursion IsPlain bytes

inside_is : (x : ℕ) → is_continuation (next x) ≡ true
inside_is x = eq-eqb _ 2 (omega arith)

inside_plain : (x : ℕ) → IsPlain (next x)
inside_plain x = (omega arith, omega arith)

lead_is : (x : ℕ) → 192 ≤ x → is_continuation x ≡ false
lead_is x h = ne_eqb _ 2 (omega arith)

two_bytes : (c : ℕ) → HasBytes c ((192 + c / 64) ∷ next c ∷ [])
two_bytes c = record {
  first = 192 + c / 64;
  rest = next c ∷ [];
  is = refl;
  begins = lead_is _ (omega arith);
  inside = (inside_is c, tt);
  plain = λ h. ((omega arith, omega arith), (inside_plain c, tt));
}

three_bytes : (c : ℕ) → HasBytes c ((224 + c / 4096) ∷ next (c / 64) ∷ next c ∷ [])
three_bytes c = record {
  first = 224 + c / 4096;
  rest = next (c / 64) ∷ next c ∷ [];
  is = refl;
  begins = lead_is _ (omega arith);
  inside = (inside_is (c / 64), (inside_is c, tt));
  plain = λ h. ((omega arith, omega arith), (inside_plain (c / 64), (inside_plain c, tt)));
}

four_bytes : (c : ℕ)
    → HasBytes c ((240 + c / 262144) ∷ next (c / 4096) ∷ next (c / 64) ∷ next c ∷ [])
four_bytes c = record {
  first = 240 + c / 262144;
  rest = next (c / 4096) ∷ next (c / 64) ∷ next c ∷ [];
  is = refl;
  begins = lead_is _ (omega arith);
  inside = (inside_is (c / 4096), (inside_is (c / 64), (inside_is c, tt)));
  plain = λ h. (
    (omega arith, omega arith),
    (inside_plain (c / 4096), (inside_plain (c / 64), (inside_plain c, tt))),
  );
}

one_byte : (c : ℕ) → c < 128 → HasBytes c (c ∷ [])
one_byte c h = record {
  first = c;
  rest = [];
  is = refl;
  begins = ne_eqb _ 2 (omega arith);
  inside = tt;
  plain = λ p. (p, tt);
}

many_bytes : (c : ℕ) (two three : Bool)
    → HasBytes c (cond two ((192 + c / 64) ∷ next c ∷ [])
    (cond three ((224 + c / 4096) ∷ next (c / 64) ∷ next c ∷ [])
    ((240 + c / 262144) ∷ next (c / 4096) ∷ next (c / 64) ∷ next c ∷ [])))
many_bytes c true three = two_bytes c
many_bytes c false true = three_bytes c
many_bytes c false false = four_bytes c

has_bytes_where : (c : ℕ) (one : Bool) (more : List ℕ) → (one ≡ true → c < 128) → HasBytes c more
    → HasBytes c (cond one (c ∷ []) more)
has_bytes_where c true more low many = one_byte c (low refl)
has_bytes_where c false more low many = many

pub has_bytes : (c : ℕ) → HasBytes c (encode c)
unfolding encode
has_bytes c = has_bytes_where c (ltb c 128) _ (ltb-true c 128)
    (many_bytes c (ltb c 2048) (ltb c 65536))

-- ---- behind a character

past_inside : (bs rest : List ℕ) → AllByRecursion (λ b. is_continuation b ≡ true) bs
    → past_continuation (bs ++ rest) ≡ past_continuation rest
past_inside [] rest h = refl
past_inside (b ∷ bs) rest h = rw h.0 (past_inside bs rest h.1)

past_begun : (b : ℕ) (bs : List ℕ) → is_continuation b ≡ false → past_continuation (b ∷ bs) ≡ b ∷ bs
past_begun b bs h = rw h refl

past_characters : (cs : List ℕ) → past_continuation (encodes cs) ≡ encodes cs
past_characters [] = refl
past_characters (c ∷ cs) = let at = has_bytes c in
    rw at.is (past_begun at.first (at.rest ++ encodes cs) at.begins)

past_rest : (bs cs : List ℕ) → AllByRecursion (λ b. is_continuation b ≡ true) bs
    → past_continuation (bs ++ encodes cs) ≡ encodes cs
past_rest bs cs h = past_inside bs (encodes cs) h ∙ past_characters cs

-- ---- some suffix

suffix_inside : (test : List ℕ → Bool) (bs rest : List ℕ)
    → AllByRecursion (λ b. is_continuation b ≡ true) bs
    → some_suffix_from test (bs ++ rest) ≡ some_suffix_from test rest
suffix_inside test [] rest h = refl
suffix_inside test (b ∷ bs) rest h = rw h.0 (suffix_inside test bs rest h.1)

suffix_begun : (test : List ℕ → Bool) (b : ℕ) (bs : List ℕ) → is_continuation b ≡ false
    → some_suffix_from test (b ∷ bs) ≡ (test (b ∷ bs) || some_suffix_from test bs)
suffix_begun test b bs h = rw h refl

suffixes : (test of_characters : List ℕ → Bool)
    → ((cs : List ℕ) → test (encodes cs) ≡ of_characters cs) → (cs : List ℕ)
    → some_suffix_from test (encodes cs) ≡ some_suffix of_characters cs
suffixes test of_characters same [] = same []
suffixes test of_characters same (c ∷ cs) =
    let at = has_bytes c in
    let whole : test (at.first ∷ (at.rest ++ encodes cs)) ≡ of_characters (c ∷ cs) =
    rw at.is at (same (c ∷ cs)) in
    rw at.is (suffix_begun test at.first (at.rest ++ encodes cs) at.begins
    ∙ ap (λ b. b || some_suffix_from test (at.rest ++ encodes cs)) whole
    ∙ ap (λ b. of_characters (c ∷ cs) || b)
    (suffix_inside test at.rest (encodes cs) at.inside ∙ suffixes test of_characters same cs))

-- ---- a plain character

pub matches_plain : (b : ℕ) (q u : List ℕ) → IsPlain b
    → matches (b ∷ q) u ≡ behind_first (λ x. eqb x b) (matches q) u
matches_plain b q u h = rw (ne_eqb b 37 h.0, ne_eqb b 95 h.1) refl

-- plain bytes match themselves, and what follows goes on
matches_itself : (bs q u : List ℕ) → AllByRecursion IsPlain bs
    → matches (bs ++ q) (bs ++ u) ≡ matches q u
matches_itself [] q u h = refl
matches_itself (b ∷ bs) q u h =
    matches_plain b (bs ++ q) (b ∷ (bs ++ u)) h.0 ∙ rw (eq-eqb b b refl) (matches_itself bs q u h.1)

-- where they match, the text begins with them
matched_begins : (bs q u : List ℕ) → AllByRecursion IsPlain bs → matches (bs ++ q) u ≡ true
    → (rest : List ℕ) × (u ≡ bs ++ rest)
matched_begins [] q u h m = (u, refl)
matched_begins (b ∷ bs) q [] h m =
    absurd (let no : false ≡ true = sym (matches_plain b (bs ++ q) [] h.0) ∙ m in cc)
matched_begins (b ∷ bs) q (x ∷ u) h m =
    let parts = and_parts (eqb x b) (matches (bs ++ q) u)
    (sym (matches_plain b (bs ++ q) (x ∷ u) h.0) ∙ m) in
    let later = matched_begins bs q u h.1 parts.1 in (
      later.0,
      let same : x ≡ b = eqb-true x b parts.0 in let tail : u
          ≡ bs ++ later.0 = later.1 in cc,
    )

plain_apart : (c d : ℕ) (q u : List ℕ) → AllByRecursion IsPlain (encode c) → (d ≡ c → ⊥)
    → matches (encode c ++ q) (encode d ++ u) ≡ false
plain_apart c d q u plain apart = elim (cases_Bool (matches (encode c ++ q) (encode d ++ u))) [
  | inl m ↦ let begun = matched_begins (encode c) q (encode d ++ u) plain m in
      absurd (apart (encode_same d c u begun.0 begun.1).0)
  | inr m ↦ m
]

plain_first : (c d : ℕ) (q u : List ℕ) → AllByRecursion IsPlain (encode c)
    → matches (encode c ++ q) (encode d ++ u) ≡ (eqb d c && matches q u)
plain_first c d q u plain = elim (cases_eq d c) [
  | inl same ↦ rw (eq-eqb d c same) (rw same (matches_itself (encode c) q u plain))
  | inr apart ↦ rw (ne_eqb d c apart) (plain_apart c d q u plain apart)
]

plain_none : (c : ℕ) (q : List ℕ) → AllByRecursion IsPlain (encode c)
    → matches (encode c ++ q) [] ≡ false
plain_none c q plain =
    let at = has_bytes c in
    let plainly = subst (AllByRecursion IsPlain) at.is plain in
    rw at.is (matches_plain at.first (at.rest ++ q) [] plainly.0)

plain_character : (c : ℕ) (q : List ℕ) (of_characters : List ℕ → Bool) → IsPlain c
    → ((ds : List ℕ) → matches q (encodes ds) ≡ of_characters ds)
    → (ds : List ℕ)
    → matches (encode c ++ q) (encodes ds) ≡ behind_first (λ d. eqb d c) of_characters ds
plain_character c q of_characters plain same [] = plain_none c q ((has_bytes c).plain plain)
plain_character c q of_characters plain same (d ∷ ds) =
    plain_first c d q (encodes ds) ((has_bytes c).plain plain) ∙ ap (λ b. eqb d c && b) (same ds)

-- ---- `_`

one_character : (q : List ℕ) (of_characters : List ℕ → Bool)
    → ((ds : List ℕ) → matches q (encodes ds) ≡ of_characters ds)
    → (ds : List ℕ)
    → behind_first (λ _. true) (λ bs. matches q (past_continuation bs)) (encodes ds)
    ≡ behind_first (λ _. true) of_characters ds
one_character q of_characters same [] = refl
one_character q of_characters same (d ∷ ds) = let at = has_bytes d in
    rw at.is (ap (matches q) (past_rest at.rest ds at.inside) ∙ same ds)

-- ---- all of it

abbrev SameBehind : List ℕ → Type 0
SameBehind cs = (ds : List ℕ) → matches (encodes cs) (encodes ds) ≡ fits cs ds

at_percent : (cs ds : List ℕ) → SameBehind cs
    → matches (encode 37 ++ encodes cs) (encodes ds) ≡ fits (37 ∷ cs) ds
at_percent cs ds same = let one : encode 37 ≡ 37 ∷ [] = encode_ascii 37 (lit< tt) in
    rw one (suffixes (matches (encodes cs)) (fits cs) same ds)

at_underscore : (cs ds : List ℕ) → SameBehind cs
    → matches (encode 95 ++ encodes cs) (encodes ds) ≡ fits (95 ∷ cs) ds
at_underscore cs ds same = let one : encode 95 ≡ 95 ∷ [] = encode_ascii 95 (lit< tt) in
    rw one (one_character (encodes cs) (fits cs) same ds)

at_plain : (c : ℕ) (cs ds : List ℕ) → c ≢ 37 → c ≢ 95 → SameBehind cs
    → matches (encode c ++ encodes cs) (encodes ds) ≡ fits (c ∷ cs) ds
at_plain c cs ds other plain same =
    rw (ne_eqb c 37 other, ne_eqb c 95 plain)
    (plain_character c (encodes cs) (fits cs) (other, plain) same ds)

pub matches_characters : (cs ds : List ℕ) → matches (encodes cs) (encodes ds) ≡ fits cs ds
matches_characters [] [] = refl
matches_characters [] (d ∷ ds) = let at = has_bytes d in rw at.is refl
matches_characters (c ∷ cs) ds = elim (cases_eq c 37) [
  | inl percent ↦ rw percent (at_percent cs ds (matches_characters cs))
  | inr other ↦ elim (cases_eq c 95) [
    | inl underscore ↦ rw underscore (at_underscore cs ds (matches_characters cs))
    | inr plain ↦ at_plain c cs ds other plain (matches_characters cs)
  ]
]

pub matches_texts : (pattern text : List ℕ) → IsUtf8 pattern → IsUtf8 text
    → matches pattern text ≡ is_like pattern text
matches_texts pattern text p t =
    ap (λ bs. matches bs text) (sym (encodes-chars pattern p))
    ∙ ap (matches (encodes (chars pattern))) (sym (encodes-chars text t))
    ∙ matches_characters (chars pattern) (chars text)
