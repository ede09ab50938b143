-- A date is ten bytes that instants are spelled with, the first a digit.
use Rattle.std.proofs.Common.{◌≡◌, ℕ, zero, suc, ◌+◌, Bool, true, ◌&&◌, ◌==◌}
use Rattle.std.proofs.Common.{cond, List, [], ◌∷◌, ◌++◌, length, take, slice_index}
use Rattle.std.proofs.Common.{refl, sym, ap, ◌∙◌, subst, arith, eqb-true}
use Rattle.std.specs.List.{list_all, prefix_len}
use Rattle.std.specs.Char.{is_ascii_digit}
use Rattle.std.proofs.lemmas.Bool.Decides.{nat_tests}
use Rattle.std.proofs.lemmas.Bool.{and_parts, and_from}
use Rattle.gm_calendar.specs.Spelling.{has_date_form, is_instant_byte}
use Rattle.gm_ecql.specs.Token.{Starts}

pub record Dated (s : List ℕ) : Type 0 where
  pub len : length s ≡ 10
  pub all : list_all is_instant_byte s ≡ true
  pub starts : Starts is_ascii_digit s

digit_is : (b : ℕ) → is_ascii_digit b ≡ true → is_instant_byte b ≡ true
digit_is b e = grind (arith, nat_tests)

dash_is : (b : ℕ) → (b == 45) ≡ true → is_instant_byte b ≡ true
dash_is b e = subst (λ z. is_instant_byte z ≡ true) (sym (eqb-true b 45 e)) refl

ten_long : (s : List ℕ) → has_date_form s ≡ true → length s ≡ 10
ten_long s is =
    eqb-true (length s) 10
    (and_parts (length s == 10) _
    (and_parts ((length s == 10) && ((slice_index s 4 == 45) && (slice_index s 7 == 45))) _
    is).0).0

-- of two tests in a row
first_two : (p : ℕ → Bool) (x y : ℕ) → list_all p (x ∷ y ∷ []) ≡ true → (p x ≡ true) × (p y ≡ true)
first_two p x y e = let k = and_parts (p x) (list_all p (y ∷ [])) e in
    (k.0, (and_parts (p y) true k.1).0)

first_four : (p : ℕ → Bool) (x y z w : ℕ) → list_all p (x ∷ y ∷ z ∷ w ∷ []) ≡ true
    → (p x ≡ true) × (p y ≡ true) × (p z ≡ true) × (p w ≡ true)
first_four p x y z w e =
    let k = and_parts (p x) (list_all p (y ∷ z ∷ w ∷ [])) e in
    let l = and_parts (p y) (list_all p (z ∷ w ∷ [])) k.1 in
    let m = first_two p z w l.1 in
    (k.0, l.0, m.0, m.1)

pub date_shape : (s : List ℕ) → has_date_form s ≡ true → Dated s
date_shape ([]) is = absurd (omega (arith, ten_long ([]) is))
date_shape (a ∷ []) is = absurd (omega (arith, ten_long (a ∷ []) is))
date_shape (a ∷ b ∷ []) is = absurd (omega (arith, ten_long (a ∷ b ∷ []) is))
date_shape (a ∷ b ∷ c ∷ []) is = absurd (omega (arith, ten_long (a ∷ b ∷ c ∷ []) is))
date_shape (a ∷ b ∷ c ∷ d ∷ []) is = absurd (omega (arith, ten_long (a ∷ b ∷ c ∷ d ∷ []) is))
date_shape (a ∷ b ∷ c ∷ d ∷ e ∷ []) is =
    absurd (omega (arith, ten_long (a ∷ b ∷ c ∷ d ∷ e ∷ []) is))
date_shape (a ∷ b ∷ c ∷ d ∷ e ∷ f ∷ []) is =
    absurd (omega (arith, ten_long (a ∷ b ∷ c ∷ d ∷ e ∷ f ∷ []) is))
date_shape (a ∷ b ∷ c ∷ d ∷ e ∷ f ∷ g ∷ []) is =
    absurd (omega (arith, ten_long (a ∷ b ∷ c ∷ d ∷ e ∷ f ∷ g ∷ []) is))
date_shape (a ∷ b ∷ c ∷ d ∷ e ∷ f ∷ g ∷ h ∷ []) is =
    absurd (omega (arith, ten_long (a ∷ b ∷ c ∷ d ∷ e ∷ f ∷ g ∷ h ∷ []) is))
date_shape (a ∷ b ∷ c ∷ d ∷ e ∷ f ∷ g ∷ h ∷ i ∷ []) is =
    absurd (omega (arith, ten_long (a ∷ b ∷ c ∷ d ∷ e ∷ f ∷ g ∷ h ∷ i ∷ []) is))
date_shape (a ∷ b ∷ c ∷ d ∷ e ∷ f ∷ g ∷ h ∷ i ∷ j ∷ []) is =
    let front = and_parts ((e == 45) && (h == 45))
    ((list_all is_ascii_digit (a ∷ b ∷ c ∷ d ∷ []) && list_all is_ascii_digit (f ∷ g ∷ []))
    && list_all is_ascii_digit (i ∷ j ∷ [])) is in
    let dash = and_parts (e == 45) (h == 45) front.0 in
    let runs = and_parts
    (list_all is_ascii_digit (a ∷ b ∷ c ∷ d ∷ []) && list_all is_ascii_digit (f ∷ g ∷ []))
    (list_all is_ascii_digit (i ∷ j ∷ [])) front.1 in
    let run = and_parts (list_all is_ascii_digit (a ∷ b ∷ c ∷ d ∷ []))
    (list_all is_ascii_digit (f ∷ g ∷ [])) runs.0 in
    let year = first_four is_ascii_digit a b c d run.0 in
    let month = first_two is_ascii_digit f g run.1 in
    let day = first_two is_ascii_digit i j runs.1 in
    record {
      len = refl;
      all = and_from _ _ (digit_is a year.0)
          (and_from _ _ (digit_is b year.1)
          (and_from _ _ (digit_is c year.2)
          (and_from _ _ (digit_is d year.3)
          (and_from _ _ (dash_is e dash.0)
          (and_from _ _ (digit_is f month.0)
          (and_from _ _ (digit_is g month.1)
          (and_from _ _ (dash_is h dash.1)
          (and_from _ _ (digit_is i day.0) (and_from _ _ (digit_is j day.1) refl)))))))));
      starts = year.0;
    }
date_shape (a ∷ b ∷ c ∷ d ∷ e ∷ f ∷ g ∷ h ∷ i ∷ j ∷ k ∷ rest) is =
    absurd (omega (arith, ten_long (a ∷ b ∷ c ∷ d ∷ e ∷ f ∷ g ∷ h ∷ i ∷ j ∷ k ∷ rest) is))

pub date_first : (s : List ℕ) → has_date_form s ≡ true → is_ascii_digit (slice_index s 0) ≡ true
date_first [] is = absurd (cc)
date_first (b ∷ s) is = (date_shape (b ∷ s) is).starts

pub take_more : (k : ℕ) (s rest : List ℕ) → length (take k s) ≡ k → take k (s ++ rest) ≡ take k s
take_more zero s rest e = refl
take_more (suc k) [] rest e = absurd (omega (arith, e))
take_more (suc k) (b ∷ s) rest e = ap (λ z. b ∷ z) (take_more k s rest (omega (arith, e)))

take_run : (test : ℕ → Bool) (k : ℕ) (s : List ℕ) → list_all test (take k s) ≡ true
    → take k (take (prefix_len test s) s) ≡ take k s
take_run test zero s all = refl
take_run test (suc k) [] all = refl
take_run test (suc k) (b ∷ s) all =
    let each = and_parts (test b) (list_all test (take k s)) all in
    ap (λ t. take (suc k) (take (cond t (1 + prefix_len test s) 0) (b ∷ s))) each.0
    ∙ ap (λ n. take (suc k) (take n (b ∷ s))) (more (prefix_len test s))
    ∙ ap (λ z. b ∷ z) (take_run test k s each.1)
  where
    more : (n : ℕ) → 1 + n ≡ suc n
    more n = omega arith

pub ten_ahead : (bytes : List ℕ) → has_date_form (take 10 bytes) ≡ true
    → has_date_form (take 10 (take (prefix_len is_instant_byte bytes) bytes)) ≡ true
ten_ahead bytes e =
    ap has_date_form (take_run is_instant_byte 10 bytes (date_shape (take 10 bytes) e).all) ∙ e
